use Rattle.std.proofs.Common.{arith}
use Rattle.expr_ops.proofs.DraftLaws.{no_draft}
use Rattle.expr_ops.proofs.PutLaws.{on_err_any}
use Rattle.expr_ops.proofs.SimplePuts.{put_extends, put_more, next_known, next_holds, simple_written}
use Rattle.expr_ops.proofs.simple.put_simple.Goals as goal

pub put_op-requires-clause-known : goal.put_op-requires-clause-known
put_op-requires-clause-known c =
    next_known c.args.refs.now c.args.bytes.now c.args.ops.now c.requires.simple c.loop-op.op-index no_draft.op c.with_next_ref-next.result c.requires.old c.loop-op-test.true c.with_next_ref-next.ensures.code

pub put_op-requires-clause-holds : goal.put_op-requires-clause-holds
put_op-requires-clause-holds c =
    next_holds c.args.refs.now c.args.bytes.now c.args.ops.now c.requires.simple c.loop-op.op-index no_draft.op c.with_next_ref-next.result c.needed_slot.result c.loop-op-test.true c.with_next_ref-next.ensures.code (c.needed_slot.ensures c.args.bytes.now)

pub returns-in_err-put_op-clause-err : goal.returns-in_err-put_op-clause-err
returns-in_err-put_op-clause-err c =
    let a = c.loop-op in
    on_err_any c.from_residual.result (put_extends c.args.refs.now c.args.bytes.now c.args.ops.now c.args.out.now.items a.out.items c.put_op.new.out.items a.op-index a.ref_at a.invariant c.in_err-put_op.ensures.err)

pub loop-op-preserved : goal.loop-op-preserved
loop-op-preserved c =
    let a = c.loop-op in
    put_more c.args.refs.now c.args.bytes.now c.args.ops.now c.requires.simple c.args.out.now.items a.out.items c.put_op.new.out.items a.op-index a.ref_at c.with_next_ref-next.new.at no_draft.op c.with_next_ref-next.result c.needed_slot.result a.invariant c.loop-op-test.true c.with_next_ref-next.ensures.code (c.with_next_ref-next.ensures.next c.args.bytes.now) (c.needed_slot.ensures c.args.bytes.now) c.in_ok-put_op.ensures.ok

pub returns-clause-ok : goal.returns-clause-ok
returns-clause-ok c =
    let a = c.loop-op in
    let past = c.loop-op-test.false in
    simple_written c.args.refs.now c.args.bytes.now c.args.ops.now c.requires.simple c.args.out.now.items a.out.items a.op-index a.ref_at c.requires.old c.requires.refs c.requires.fits (omega (arith, past)) a.invariant
