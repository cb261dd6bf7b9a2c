use Rattle.std.proofs.Common.{◌≡◌, ◌≤◌, ◌<◌, ◌-◌, ℕ, get_or}
use Rattle.line_sums.specs.inside.Windows.{AddsRun}
use Rattle.line_sums.proofs.sums.add_runs.Given as goal

abbrev pub invariant-loop-from : goal.invariant-loop-from
invariant-loop-from l = record {
  within : l.from ≤ 256;
  added : (place : ℕ) → place < l.from → AddsRun l.line l.copy l.windows l.count place (get_or l.fn.sums place 0) (get_or l.sums place 0);
  left : (place : ℕ) → l.from ≤ place → place < 256 → get_or l.sums place 0 ≡ get_or l.fn.sums place 0;
}

abbrev pub decreases-loop-from : goal.decreases-loop-from
decreases-loop-from l = 256 - l.from
