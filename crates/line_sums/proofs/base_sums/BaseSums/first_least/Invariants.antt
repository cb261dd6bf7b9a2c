use Rattle.std.proofs.Common.{◌≡◌}
use Rattle.line_sums.specs.inside.RunningSums.{sums_from}
use Rattle.line_sums.proofs.RunningLaws.{IsLeastBelow, sum_before}
use Rattle.line_sums.proofs.base_sums.BaseSums.first_least.Given as goal

abbrev pub invariant-loop-place : goal.invariant-loop-place
invariant-loop-place l = record {
  sum : l.sum ≡ sum_before 0 l.self-inside.changes.items l.place;
  least : IsLeastBelow (sums_from 0 l.self-inside.changes.items) l.place l.first l.least;
}
