use Rattle.list_model.specs.Contributions.{offsets_at}
use Rattle.list_write.specs.inside.Puts.{AreSlotsPut}
use Rattle.list_write.proofs.part.put_slots.Given as goal

abbrev pub invariant-loop-slot : goal.invariant-loop-slot
invariant-loop-slot l = AreSlotsPut l.section (offsets_at l.part.at) (offsets_at l.at) l.lists.items l.slot l.fn.out.items l.out.items
