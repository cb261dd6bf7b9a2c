use Rattle.expr_ops.proofs.NameLaws.{place_once}
use Rattle.expr_ops.proofs.laws.one_reference_place.Goals as goal

pub returns : goal.returns
returns c = place_once
