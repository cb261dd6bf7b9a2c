use Rattle.std.proofs.Common.{◌≡◌, ◌+◌, ◌*◌, length}
use Rattle.line_params.specs.inside.PairSearch.{IsBestTried, pair_order}
use Rattle.line_params.proofs.pair.least_pair.Given as goal

abbrev pub invariant-loop-runs : goal.invariant-loop-runs
invariant-loop-runs l = record {
  best : IsBestTried l.head l.counted.items 1 l.best;
  ways : l.ways ≡ l.head.min;
  totals : length l.totals.items ≡ 256;
  numbers : length l.numbers.items ≡ 256;
}

abbrev pub decreases-loop-runs : goal.decreases-loop-runs
decreases-loop-runs l = l.best.bytes * 65536 + pair_order l.best.pair
