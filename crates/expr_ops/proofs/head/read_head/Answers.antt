use Rattle.std.proofs.Common.{refl, sym}
use Rattle.std.proofs.lemmas.Result.{IfOk-weaker, IfErr-weaker}
use Rattle.expr_ops.proofs.ReadLaws.{head_read, unknown_op, operand_fault}
use Rattle.expr_ops.proofs.head.read_head.Goals as goal

pub returns-in-Some-clause-read : goal.returns-in-Some-clause-read
returns-in-Some-clause-read c =
    IfOk-weaker c.read_operands.result _ _ (λ head body. head_read _ c.in-Some.operands c.args.bytes.now c.args.at head c.requires refl (sym c.in-Some.ensures) (λ k lt. (c.type_inv.bytes k).fits) body) c.read_operands.ensures.read

pub returns-in-Some-clause-fault : goal.returns-in-Some-clause-fault
returns-in-Some-clause-fault c =
    IfErr-weaker c.read_operands.result _ _ (λ fault body. operand_fault _ c.in-Some.operands c.args.bytes.now c.args.at fault c.requires refl (sym c.in-Some.ensures) body) c.read_operands.ensures.fault

pub returns-in-None-clause-fault : goal.returns-in-None-clause-fault
returns-in-None-clause-fault c =
    unknown_op _ c.args.bytes.now c.args.at c.fault_at.result c.requires refl (sym c.in-None.ensures) c.fault_at.ensures.kind c.fault_at.ensures.place
