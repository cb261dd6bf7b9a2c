use Rattle.expr_ops.proofs.SlotLaws.{needed_are_shortest}
use Rattle.expr_ops.proofs.slots.needed_are_shortest.Goals as goal

pub returns : goal.returns
returns c = needed_are_shortest
