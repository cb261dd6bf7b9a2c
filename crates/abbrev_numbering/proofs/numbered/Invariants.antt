use Rattle.std.proofs.Common.{◌≡◌, ◌<◌, ◌+◌, ◌⊎◌, ℕ, length, slice_index}
use Rattle.abbrev_numbering.specs.inside.Order.{place_at}
use Rattle.abbrev_numbering.proofs.numbered.Given as goal

abbrev pub invariant-loop-i : goal.invariant-loop-i
invariant-loop-i l = record {
  same_length : length l.numbers.items ≡ l.count;
  each : (k : ℕ) → k < l.i → slice_index l.numbers.items (place_at l.order k) ≡ k + 1;
  others : (p : ℕ) → p < l.count → (slice_index l.numbers.items p ≡ 0) ⊎ ((k : ℕ) × (k < l.i) × (place_at l.order k ≡ p));
}
