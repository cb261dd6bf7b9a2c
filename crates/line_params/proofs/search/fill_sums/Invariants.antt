use Rattle.std.proofs.Common.{◌≡◌}
use Rattle.line_sums.specs.Counting.{row_bytes}
use Rattle.line_sums.specs.Sums.{AreSummed}
use Rattle.line_params.proofs.search.fill_sums.Given as goal

abbrev pub invariant-loop-index : goal.invariant-loop-index
invariant-loop-index l = record {
  summed : AreSummed l.range l.min row_bytes l.counted l.index l.sums l.rest;
  ways : l.ways ≡ l.fn.ways;
}
