use Rattle.unit_write.proofs.SlotCounts.{AreSummed}
use Rattle.unit_write.proofs.marks.slots_before_entries.Given as goal

abbrev pub invariant-loop-entry : goal.invariant-loop-entry
invariant-loop-entry l = AreSummed l.forest l.slots l.counts.items l.entry-index l.count
