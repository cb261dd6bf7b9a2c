use Rattle.tidy_tables.specs.inside.Pairings.{AreAdded}
use Rattle.tidy_tables.proofs.pairings.add_unit.Given as goal

abbrev pub invariant-loop-id : goal.invariant-loop-id
invariant-loop-id l = AreAdded l.fn.pairings l.pairings l.old l.written l.id
