use Rattle.expr_ops.proofs.SlotLaws.{slots_have_opcodes}
use Rattle.expr_ops.proofs.PlainLaws.{slots_are_few}
use Rattle.expr_ops.proofs.slots.slots_are_few.Goals as goal

pub returns-clause-opcodes : goal.returns-clause-opcodes
returns-clause-opcodes c = slots_have_opcodes

pub returns-clause-few : goal.returns-clause-few
returns-clause-few c = slots_are_few
