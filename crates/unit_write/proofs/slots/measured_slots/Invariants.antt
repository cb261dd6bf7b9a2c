use Rattle.entry_read.specs.Slots.{aims_before, meaning_at, operations_in}
use Rattle.unit_write.specs.inside.Marks.{AreSlotsMade}
use Rattle.unit_write.proofs.slots.measured_slots.Given as goal

abbrev pub invariant-loop-number : goal.invariant-loop-number
invariant-loop-number l = AreSlotsMade l.marks l.spots.items (aims_before (meaning_at l.unit.forest) (operations_in l.unit.forest l.operations) l.number) l.slots.items
