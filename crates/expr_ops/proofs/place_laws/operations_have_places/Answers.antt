use Rattle.expr_ops.proofs.HeldPlaces.{expression_held}
use Rattle.expr_ops.proofs.place_laws.operations_have_places.Goals as goal

pub returns : goal.returns
returns c = expression_held
