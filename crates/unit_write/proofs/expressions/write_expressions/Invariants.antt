use Rattle.unit_write.proofs.ExprLaws.{ExpressionsPut}
use Rattle.unit_write.proofs.expressions.write_expressions.Given as goal

abbrev pub invariant-loop-number : goal.invariant-loop-number
invariant-loop-number l = ExpressionsPut l.unit.forest l.operations l.numbers.items l.number l.ends.items l.bytes.items
