use Rattle.std.proofs.Common.{◌≤◌, length}
use Rattle.measure.proofs.expressions.totals_of_expressions.Given as goal

abbrev pub invariant-loop-end : goal.invariant-loop-end
invariant-loop-end l = l.from ≤ length l.all
