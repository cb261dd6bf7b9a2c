use Rattle.expr_ops.proofs.ReferencePlaces.{references_inside}
use Rattle.expr_ops.proofs.place_laws.references_inside.Goals as goal

pub returns : goal.returns
returns c = references_inside
