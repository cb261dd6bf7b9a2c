use Rattle.std.proofs.Common.{◌≡◌, ◌≤◌, ◌+◌, ℕ, length, sum, take, slice_index}
use Rattle.slot_layout.proofs.rounds.sum_sizes.Given as goal

abbrev pub invariant-loop-i : goal.invariant-loop-i
invariant-loop-i l = record {
  one_more : length l.starts ≡ length l.sizes + 1;
  start : l.start ≡ sum (take l.i l.sizes);
  each : (k : ℕ) → k ≤ l.i → slice_index l.starts k ≡ sum (take k l.sizes);
}
