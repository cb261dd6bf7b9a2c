use Rattle.std.proofs.Common.{length, drop}
use Rattle.list_write.specs.Written.{AreEnds, EndsRise}
use Rattle.list_tests.proofs.list_write_tests.are_ends.Given as goal

abbrev pub invariant-loop-end : goal.invariant-loop-end
invariant-loop-end l = EndsRise l.from (drop l.end-index l.expressions.ends.items) (length l.expressions.bytes.items) → AreEnds l.expressions
