use Rattle.std.proofs.Common.{◌∙◌, ap, sym}
use Rattle.unit_write.specs.declared.slots.ListSlot.{ListSlot}
use Rattle.unit_write.specs.Slots.{list_spot}
use Rattle.unit_write.specs.inside.Marks.{slot_for, list_aim}
use Rattle.unit_write.proofs.slots.list_slot.Goals as goal

pub returns-in-Place : goal.returns-in-Place
returns-in-Place c = c.slot.ensures c.args.number 0 ∙ ap (λ (z : ListSlot). slot_for c.args.marks.now (list_spot z) c.args.number (list_aim z)) (sym c.in-Place.is)
