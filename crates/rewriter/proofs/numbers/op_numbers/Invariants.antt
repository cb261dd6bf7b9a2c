use Rattle.rewriter.specs.inside.Held.{AreOperationsUpTo}
use Rattle.rewriter.proofs.numbers.op_numbers.Given as goal

abbrev pub invariant-loop-id : goal.invariant-loop-id
invariant-loop-id l = AreOperationsUpTo l.world l.places.items l.unit l.numbers.items l.id
