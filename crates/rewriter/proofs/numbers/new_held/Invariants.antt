use Rattle.rewriter.specs.inside.Held.{AreNumberedUpTo}
use Rattle.rewriter.proofs.numbers.new_held.Given as goal

abbrev pub invariant-loop-id : goal.invariant-loop-id
invariant-loop-id l = AreNumberedUpTo l.world l.own l.places.items l.new_places l.unit l.held.items l.id
