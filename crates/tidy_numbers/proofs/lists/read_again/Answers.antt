use Rattle.std.proofs.Common.{subst}
use Rattle.dw_base.specs.Refusals.{IsRefusedFor, IsFaultOf}
use Rattle.dw_base.specs.declared.fault.Reach.TheVariants.{Wide}
use Rattle.dw_base.specs.declared.fault.Refusal.{Refusal}
use Rattle.expr_ops.specs.ExpressionFaults.{FaultExpression}
use Rattle.tidy_numbers.proofs.lists.read_again.Goals as goal

-- what is an expression has no fault
pub unreachable-requires : goal.unreachable-requires
unreachable-requires c =
    let bytes = c.args.bytes.now in
    let fault = subst (λ (z : Refusal). IsRefusedFor (IsFaultOf (λ k at. FaultExpression Wide k at bytes) 0) z) c.in-Err-Refused.field-0-is c.in-Err-Refused.ensures.fault in
    c.never_both.ensures Wide c.requires.0 c.in-Err-Refused.field-0-0.kind fault.0 bytes c.requires.1 fault.2
