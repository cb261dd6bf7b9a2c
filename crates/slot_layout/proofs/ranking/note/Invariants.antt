use Rattle.std.proofs.Common.{◌≡◌, ◌<◌, ◌≤◌, ℕ, length, slice_index}
use Rattle.slot_layout.proofs.ranking.note.Given as goal

abbrev pub invariant-loop-k : goal.invariant-loop-k
invariant-loop-k l = record {
  same_length : length l.noted ≡ length l.fn.ranks;
  before : (k : ℕ) → k < l.fn.from → slice_index l.noted k ≡ slice_index l.fn.ranks k;
  since : (k : ℕ) → l.fn.from ≤ k → k < l.k → slice_index l.noted k ≡ l.rank;
}
