use Rattle.std.proofs.Common.{List, ℕ, sym, subst, ◌+◌, ◌∙◌, arith, drop}
use Rattle.expr_ops.proofs.DraftLaws.{no_draft}
use Rattle.expr_ops.proofs.SlotSizes.{AreFound, step, held_few, found_one}
use Rattle.expr_ops.proofs.shortest.sizes_of.Goals as goal

pub slice_bounds-len_of-end : goal.slice_bounds-len_of-end
slice_bounds-len_of-end c = (step c.args.refs.now c.args.bytes.now c.loop-k.sizes.items c.args.ops.now c.loop-k.k no_draft.op c.with_next_ref-new.result (drop c.loop-k.ref_at c.args.refs.now) (drop c.with_next_ref-new.new.at c.args.refs.now) c.loop-k.invariant c.loop-k-test.true c.requires.nest (c.with_next_ref-new.ensures.next c.args.bytes.now)).inside

pub len_of-held-requires-clause-nest : goal.len_of-held-requires-clause-nest
len_of-held-requires-clause-nest c = (step c.args.refs.now c.args.bytes.now c.loop-k.sizes.items c.args.ops.now c.loop-k.k no_draft.op c.with_next_ref-new.result (drop c.loop-k.ref_at c.args.refs.now) (drop c.with_next_ref-new.new.at c.args.refs.now) c.loop-k.invariant c.loop-k-test.true c.requires.nest (c.with_next_ref-new.ensures.next c.args.bytes.now)).held

pub len_of-held-requires-clause-fits : goal.len_of-held-requires-clause-fits
len_of-held-requires-clause-fits c =
    let few = held_few c.args.refs.now c.args.bytes.now c.loop-k.sizes.items c.args.ops.now c.loop-k.k no_draft.op c.with_next_ref-new.result (drop c.loop-k.ref_at c.args.refs.now) (drop c.with_next_ref-new.new.at c.args.refs.now) c.loop-k.invariant c.loop-k-test.true c.requires.nest (c.with_next_ref-new.ensures.next c.args.bytes.now) in
    let fits = c.requires.fits in
    omega (arith, few, fits)

pub loop-k-preserved : goal.loop-k-preserved
loop-k-preserved c =
    let found = found_one c.args.refs.now c.args.bytes.now c.loop-k.sizes.items c.args.ops.now c.loop-k.k no_draft.op c.with_next_ref-new.result (drop c.loop-k.ref_at c.args.refs.now) (drop c.with_next_ref-new.new.at c.args.refs.now) c.loop-k.invariant c.loop-k-test.true c.requires.nest (c.with_next_ref-new.ensures.next c.args.bytes.now) c.len_of-held.result c.needed_size.result (sym c.has_slot.ensures ∙ c.if-not-has_slot.false) c.len_of-held.ensures.len (c.needed_size.ensures.size c.args.bytes.now) in
    subst (λ (z : List ℕ). AreFound c.args.refs.now c.args.bytes.now z c.args.ops.now (c.loop-k.k + 1) (drop c.with_next_ref-new.new.at c.args.refs.now)) (sym c.in_ok-push.ensures.items) found
