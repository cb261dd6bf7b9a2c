use Rattle.rewriter.specs.inside.Held.{AreNumbersUpTo}
use Rattle.rewriter.proofs.numbers.push_numbers.Given as goal

abbrev pub invariant-loop-column : goal.invariant-loop-column
invariant-loop-column l = AreNumbersUpTo l.world l.own l.places.items l.new_places l.unit l.id l.fn.held.items l.held.items l.column
