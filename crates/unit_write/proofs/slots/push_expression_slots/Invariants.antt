use Rattle.unit_write.proofs.SlotsMade.{AreBegun}
use Rattle.unit_write.proofs.slots.push_expression_slots.Given as goal

abbrev pub invariant-loop-k : goal.invariant-loop-k
invariant-loop-k l = AreBegun l.fn.marks l.fn.spots.items l.bytes l.ops l.k l.fn.slots.items l.slots.items
