use Rattle.entry_read.proofs.ExpressionLaws.{HasFrontOps}
use Rattle.entry_read.proofs.expressions.read_expressions.Given as goal

abbrev pub invariant-loop-number : goal.invariant-loop-number
invariant-loop-number l = HasFrontOps l.reach l.unit.forest l.held l.number
