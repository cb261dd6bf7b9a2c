use Rattle.expr_ops.proofs.LevelsDecided.{expression_decided}
use Rattle.expr_ops.proofs.laws.expression_or_fault.Goals as goal

pub returns : goal.returns
returns c = expression_decided
