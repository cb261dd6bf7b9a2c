use Rattle.std.proofs.Common.{subst}
use Rattle.dw_base.specs.Refusals.{IsRefusedFor, IsFaultOf}
use Rattle.dw_base.specs.declared.fault.Reach.TheVariants.{Narrow}
use Rattle.dw_base.specs.declared.fault.Refusal.{Refusal}
use Rattle.expr_ops.specs.ExpressionFaults.{FaultExpression}
use Rattle.expr_ops.proofs.Levels.{expression_never}
use Rattle.rewriter.proofs.list_expressions.read_again.Goals as goal

-- what is an expression has no fault
pub unreachable-requires : goal.unreachable-requires
unreachable-requires c =
    let bytes = c.args.bytes.now in
    let fault = subst (λ (z : Refusal). IsRefusedFor (IsFaultOf (λ k at. FaultExpression Narrow k at bytes) 0) z) c.in-Err-Refused.field-0-is c.in-Err-Refused.ensures.fault in
    expression_never Narrow c.requires.valid.0 c.in-Err-Refused.field-0-0.kind fault.0 bytes c.requires.valid.1 fault.2
