use Rattle.list_model.specs.Contributions.{offsets_at}
use Rattle.list_write.proofs.Putting.{slots_more}
use Rattle.list_write.proofs.part.put_slots.Goals as goal

pub loop-slot-preserved : goal.loop-slot-preserved
loop-slot-preserved c = slots_more c.args.section.now (offsets_at c.args.part.now.at) (offsets_at c.args.at) c.args.lists.now.items c.told_list-list.result c.loop-slot.slot c.args.out.now.items c.loop-slot.out.items c.put_low.new.out.items c.loop-slot.invariant c.told_list-list.ensures c.in_ok-put_low.ensures.ok
