use Rattle.tidy_tables.specs.inside.Outlines.{AreAllSorted}
use Rattle.tidy_tables.proofs.outlines.sorted_outlines.Given as goal

abbrev pub invariant-loop-named : goal.invariant-loop-named
invariant-loop-named l = AreAllSorted l.tables.items l.named-index l.all.items
