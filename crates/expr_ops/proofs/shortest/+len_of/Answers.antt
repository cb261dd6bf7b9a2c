use Rattle.std.proofs.Common.{arith, drop}
use Rattle.expr_ops.proofs.DraftLaws.{no_draft}
use Rattle.expr_ops.proofs.NeededLaws.{step_at, added}
use Rattle.expr_ops.proofs.shortest.+len_of.Goals as goal

pub slice_bounds-len_of-end : goal.slice_bounds-len_of-end
slice_bounds-len_of-end t c = (step_at c.args.bytes.now c.args.ops.now c.loop-at.at no_draft.op c.with_next_ref-new.result (drop c.loop-at.ref_at c.args.refs.now) (drop c.with_next_ref-new.new.at c.args.refs.now) c.loop-at-test.true c.loop-at.invariant.nest (c.with_next_ref-new.ensures.next c.args.bytes.now)).inside

pub len_of-held-requires : goal.len_of-held-requires
len_of-held-requires t c =
    let s = step_at c.args.bytes.now c.args.ops.now c.loop-at.at no_draft.op c.with_next_ref-new.result (drop c.loop-at.ref_at c.args.refs.now) (drop c.with_next_ref-new.new.at c.args.refs.now) c.loop-at-test.true c.loop-at.invariant.nest (c.with_next_ref-new.ensures.next c.args.bytes.now) in
    let fewer = s.fewer in
    let less = s.less in
    let sum = s.sum in
    let e = c.loop-at.invariant.sum in
    let fits = c.requires.fits in
    (omega (arith, fewer, c.decreases), (s.held, omega (arith, less, sum, e, fits)))

pub overflow_add-sum : goal.overflow_add-sum
overflow_add-sum t c =
    let s = step_at c.args.bytes.now c.args.ops.now c.loop-at.at no_draft.op c.with_next_ref-new.result (drop c.loop-at.ref_at c.args.refs.now) (drop c.with_next_ref-new.new.at c.args.refs.now) c.loop-at-test.true c.loop-at.invariant.nest (c.with_next_ref-new.ensures.next c.args.bytes.now) in
    let a = added _ _ _ _ _ _ _ _ (drop c.len_of-held.new.ref_at c.args.refs.now) c.loop-at.sum c.len_of-held.result c.own_size.result _ _ s c.loop-at.invariant.sum c.len_of-held.ensures.len c.len_of-held.ensures.rest (c.needed_slot.ensures c.args.bytes.now) c.own_size.ensures in
    let all = a.all in
    let fits = c.requires.fits in
    omega (arith, all, fits)

pub overflow_add-sum-in-loop-at : goal.overflow_add-sum-in-loop-at
overflow_add-sum-in-loop-at t c =
    let s = step_at c.args.bytes.now c.args.ops.now c.loop-at.at no_draft.op c.with_next_ref-new.result (drop c.loop-at.ref_at c.args.refs.now) (drop c.with_next_ref-new.new.at c.args.refs.now) c.loop-at-test.true c.loop-at.invariant.nest (c.with_next_ref-new.ensures.next c.args.bytes.now) in
    let a = added _ _ _ _ _ _ _ _ (drop c.len_of-held.new.ref_at c.args.refs.now) c.loop-at.sum c.len_of-held.result c.own_size.result _ _ s c.loop-at.invariant.sum c.len_of-held.ensures.len c.len_of-held.ensures.rest (c.needed_slot.ensures c.args.bytes.now) c.own_size.ensures in
    let all = a.all in
    let fits = c.requires.fits in
    omega (arith, all, fits)

pub loop-at-preserved : goal.loop-at-preserved
loop-at-preserved t c =
    let s = step_at c.args.bytes.now c.args.ops.now c.loop-at.at no_draft.op c.with_next_ref-new.result (drop c.loop-at.ref_at c.args.refs.now) (drop c.with_next_ref-new.new.at c.args.refs.now) c.loop-at-test.true c.loop-at.invariant.nest (c.with_next_ref-new.ensures.next c.args.bytes.now) in
    let a = added _ _ _ _ _ _ _ _ (drop c.len_of-held.new.ref_at c.args.refs.now) c.loop-at.sum c.len_of-held.result c.own_size.result _ _ s c.loop-at.invariant.sum c.len_of-held.ensures.len c.len_of-held.ensures.rest (c.needed_slot.ensures c.args.bytes.now) c.own_size.ensures in
    record {
      inside = s.inside;
      nest = s.behind;
      sum = a.all;
      leaves = λ rest more. c.loop-at.invariant.leaves rest (s.chain (drop c.len_of-held.new.ref_at c.args.refs.now) rest c.len_of-held.ensures.rest more);
    }
