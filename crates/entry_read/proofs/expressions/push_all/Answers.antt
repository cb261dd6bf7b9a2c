use Rattle.std.proofs.Common.{◌<◌, ◌^◌, [], length, arith}
use Rattle.std.proofs.lemmas.List.{take_more}
use Rattle.expr_ops.specs.Drafts.{op_at}
use Rattle.entry_read.proofs.ExpressionLaws.{adds_one}
use Rattle.entry_read.proofs.expressions.push_all.Goals as goal

-- the answered number has 32 bits
pub loop-op-preserved : goal.loop-op-preserved
loop-op-preserved c =
    let few : length c.loop-op.held.ops < 2 ^ 32 = omega (arith, c.in_ok-push_op.ensures.pushed.0, rw c.in_ok-push_op.was at c.push_op.type_inv) in
    rw (c.in_ok-push_op.ensures.pushed.1, take_more c.args.ops.now c.loop-op.op-index (op_at [] 0) c.loop-op-test.true) (adds_one c.args.number _ (op_at c.args.ops.now c.loop-op.op-index) c.args.held.now c.loop-op.held c.loop-op.invariant few)
