use Rattle.unit_write.proofs.FewSlots.{slots_fit}
use Rattle.unit_write.proofs.laws.slots_fit.Goals as goal

pub returns : goal.returns
returns c = slots_fit c.slots_are_few.ensures.opcodes c.slots_are_few.ensures.few
