use Rattle.std.proofs.Common.{◌≡◌, ◌+◌, ◌*◌, ◌<◌, ℕ, length, get_or}
use Rattle.line_sums.specs.Accepted.{IsLeastNumber, numbers_of, pair_base, pair_range}
use Rattle.line_params.specs.inside.Joined.{AreJoined}
use Rattle.line_params.specs.inside.PairSearch.{IsBestTried}
use Rattle.line_params.proofs.search.try_ranges.Given as goal

abbrev pub invariant-loop-below : goal.invariant-loop-below
invariant-loop-below l = record {
  joined : AreJoined l.runs.items;
  size : length (numbers_of l.runs.items) ≡ 256 * l.below;
  each : (pair : ℕ) → pair < 256 * l.below → IsLeastNumber (pair_base pair) (pair_range pair) l.head.min 0 l.best.bytes l.counted (get_or (numbers_of l.runs.items) pair 0);
  kept : IsBestTried l.head l.counted (l.below + 1) l.best;
  ways : l.ways ≡ l.fn.ways;
  totals : length l.totals ≡ 256;
  numbers : length l.numbers ≡ 256;
}
