use Rattle.expr_ops.proofs.ChainLaws.{few_operations}
use Rattle.expr_ops.proofs.place_laws.few_operations.Goals as goal

pub returns : goal.returns
returns c = few_operations
