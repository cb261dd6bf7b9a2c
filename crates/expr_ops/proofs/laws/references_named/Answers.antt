use Rattle.expr_ops.proofs.NameLaws.{reference_named}
use Rattle.expr_ops.proofs.laws.references_named.Goals as goal

pub returns : goal.returns
returns c = reference_named
