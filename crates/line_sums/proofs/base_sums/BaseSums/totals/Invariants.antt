use Rattle.std.proofs.Common.{◌≡◌, ◌<◌, ℕ, get_or, length}
use Rattle.line_sums.proofs.RunningLaws.{sum_before}
use Rattle.line_sums.specs.inside.RunningSums.{sums_from}
use Rattle.line_sums.proofs.base_sums.BaseSums.totals.Given as goal

abbrev pub invariant-loop-place : goal.invariant-loop-place
invariant-loop-place l = record {
  sum : l.sum ≡ sum_before 0 l.self-inside.changes.items l.place;
  size : length l.totals ≡ 256;
  each : (place : ℕ) → place < l.place → get_or l.totals place 0 ≡ get_or (sums_from 0 l.self-inside.changes.items) place 0;
}
