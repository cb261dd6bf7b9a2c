use Rattle.unit_write.specs.Slots.{IsListSlotFor}
use Rattle.rewriter.specs.inside.Placed.{unit_in}
use Rattle.rewriter.proofs.SlotFronts.{AreOfFront}
use Rattle.rewriter.proofs.list_slots.push_expression.Given as goal

-- of the operations before
abbrev pub invariant-loop-k : goal.invariant-loop-k
invariant-loop-k l = AreOfFront (IsListSlotFor (unit_in l.world.units l.unit).forest (unit_in l.world.units l.unit).head.at) l.bytes l.ops l.k l.fn.slots.items l.slots.items
