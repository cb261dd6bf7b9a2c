use Rattle.rewriter.proofs.Placement.{ArePlacedUpTo, AreRanksUpTo}
use Rattle.rewriter.proofs.places.place_units.Given as goal

abbrev pub invariant-loop-number : goal.invariant-loop-number
invariant-loop-number l = ArePlacedUpTo l.world l.tables.items l.places.items l.number l.start × AreRanksUpTo l.world l.tables.items l.places.items l.number l.records.items
