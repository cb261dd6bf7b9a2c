use Rattle.rewriter.specs.inside.Held.{StandAnew}
use Rattle.rewriter.proofs.units.write_units.Given as goal

abbrev pub invariant-loop-number : goal.invariant-loop-number
invariant-loop-number l = StandAnew l.world l.tables.tables.items l.places.items l.new_places l.info.items l.number
