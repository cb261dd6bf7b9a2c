use Rattle.std.proofs.Common.{sym, ◌∙◌}
use Rattle.std.proofs.lemmas.Result.{on_ok_weaker}
use Rattle.expr_ops.specs.Ops.{meant}
use Rattle.expr_ops.proofs.PutLaws.{other_op, on_err_any, unchanged}
use Rattle.expr_ops.proofs.put.put_op.Goals as goal

pub returns-in-Some-clause-ok : goal.returns-in-Some-clause-ok
returns-in-Some-clause-ok c =
    on_ok_weaker c.put_operands.result (other_op c.args.slot (meant c.args.bytes.now c.args.op.now) c.in-Some.operands c.args.out.now.items _ c.put_operands.new.out.items c.if-op.false c.if-op-2.false (sym c.operands_of.ensures ∙ c.in-Some.is) c.in_ok-push.ensures.items) c.put_operands.ensures.ok

pub returns-in_err-push-clause-err : goal.returns-in_err-push-clause-err
returns-in_err-push-clause-err c = on_err_any c.from_residual.result (unchanged c.args.out.now.items c.push.new.self.items c.in_err-push.ensures.items)
