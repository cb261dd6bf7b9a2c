use Rattle.std.proofs.Common.{◌≡◌, length}
use Rattle.line_params.specs.inside.PairSearch.{IsBestTried}
use Rattle.line_params.proofs.search.first_choice.Given as goal

abbrev pub invariant-loop-range : goal.invariant-loop-range
invariant-loop-range l = record {
  best : IsBestTried l.head l.counted 1 l.best;
  ways : l.ways ≡ l.fn.ways;
  totals : length l.totals ≡ 256;
}
