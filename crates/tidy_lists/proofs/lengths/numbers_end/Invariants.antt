use Rattle.std.proofs.Common.{◌≡◌, ◌+◌, ℕ}
use Rattle.tidy_lists.specs.inside.Lengths.{AreNumbersUpTo}
use Rattle.tidy_lists.proofs.lengths.numbers_end.Given as goal

abbrev pub invariant-loop : goal.invariant-loop
invariant-loop l = record {
  left : (n : ℕ) × (l.counter + n ≡ l.count) × ((end : ℕ) → AreNumbersUpTo l.bytes l.at l.count end → AreNumbersUpTo l.bytes l.place n end) × ((end : ℕ) × AreNumbersUpTo l.bytes l.place n end);
}
