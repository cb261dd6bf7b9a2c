use Rattle.std.proofs.Common.{rules, ◌≡◌, ◌+◌, ◌-◌, ℕ, List, length, take, drop, refl, sym, subst, arith, ◌∷◌, []}
use Rattle.std.proofs.lemmas.Result.{err_from_is_err_and}
use Rattle.expr_ops.specs.declared.start.Start.{Start}
use Rattle.expr_ops.specs.inside.Levels.{IsFront, IsChained}
use Rattle.spelled.proofs.Parts.{length_part}
use Rattle.expr_ops.specs.inside.Reads.{head_in}
use Rattle.expr_ops.proofs.BlockLaws.{block_of_head}
use Rattle.expr_ops.proofs.Chains.{chained_none, chained_on, chained_plain, chained_entry}
use Rattle.expr_ops.proofs.Fronts.{front_none, front_on, stands_somewhere}
use Rattle.expr_ops.proofs.Kept.{on_ok, kept_same, kept_on, kept_chain, kept_held}
use Rattle.expr_ops.proofs.Segments.{plain_segment, entry_segment, entry_slice, part_stands, head_fault, too_deep, inner_fault, refused_level}
use Rattle.expr_ops.proofs.read.+levels.Goals as goal

pub read_level-loop-at-init : goal.read_level-loop-at-init
read_level-loop-at-init t c = record {
  inside = omega arith;
  first = search (rules, c.len-first.ensures);
  grown = omega arith;
  few = c.requires.few;
  chain = λ outer st. chained_none outer c.args.base c.args.ops.now.items;
  front = λ outer st. subst (λ (z : List Start). IsFront outer c.args.most c.args.deep c.args.bytes.now c.args.ops.now.items c.args.ops.now.items z 0) (sym c.new-starts.ensures.items) (front_none outer c.args.bytes.now c.args.most c.args.deep c.args.ops.now.items);
}

pub read_level-returns-in_err-head-clause-fault : goal.read_level-returns-in_err-head-clause-fault
read_level-returns-in_err-head-clause-fault t c =
    let p = err_from_is_err_and c.from_residual.result c.from_residual.ensures.1 in
    rw (p.1, p.2) (refused_level c.args.most c.args.deep c.args.bytes.now c.args.base c.args.ops.now.items c.loop-at.ops.items c.loop-at.starts.items c.loop-at.at c.in_err-head.field-0.0 c.loop-at.invariant.front c.in_err-head.ensures.fault)

pub read_level-loop-at-preserved : goal.read_level-loop-at-preserved
read_level-loop-at-preserved t c =
    let step = c.in_ok-head.ensures.step in
    let grown = c.in_ok-head.ensures.grown in
    let all : c.len.result ≡ length c.loop-at.ops.items = search (rules, c.len.ensures) in
    record {
      inside = step.1;
      first = c.loop-at.invariant.first;
      grown = omega (arith, c.loop-at.invariant.grown, grown);
      few = c.in_ok-head.ensures.few;
      chain = λ outer st. chained_on outer c.args.base (c.args.base + c.loop-at.at) (c.args.base + c.in_ok-head.head.end) c.args.ops.now.items c.loop-at.ops.items c.read_segment.new.ops.items (c.loop-at.invariant.chain outer st) (c.in_ok-head.ensures.chain outer st);
      front = λ outer st.
          subst (λ (z : List Start). IsFront outer c.args.most c.args.deep c.args.bytes.now c.args.ops.now.items c.read_segment.new.ops.items z c.in_ok-head.head.end) (sym c.in_ok-push_start.ensures) (front_on outer c.args.most c.args.deep c.args.bytes.now c.args.ops.now.items c.loop-at.ops.items c.read_segment.new.ops.items c.loop-at.starts.items c.loop-at.at (c.len.result - c.len-first.result) c.in_ok-head.head c.start_of.result (c.loop-at.invariant.front outer st) (c.in_ok-head.ensures.read outer st) (omega (arith, all, c.loop-at.invariant.first, c.loop-at.invariant.grown)) c.start_of.ensures.at c.start_of.ensures.end c.start_of.ensures.number c.start_of.ensures.branch c.start_of.ensures.distance);
    }

pub read_level-returns-clause-fault : goal.read_level-returns-clause-fault
read_level-returns-clause-fault t c =
    let (outer, st) = stands_somewhere c.args.base c.args.bytes.now in
    let whole : c.loop-at.at ≡ length c.args.bytes.now = omega (arith, c.loop-at.invariant.inside, c.loop-at-test.false) in
    let front : IsFront outer c.args.most c.args.deep c.args.bytes.now c.args.ops.now.items c.loop-at.ops.items c.loop-at.starts.items (length c.args.bytes.now) = subst (λ (z : ℕ). IsFront outer c.args.most c.args.deep c.args.bytes.now c.args.ops.now.items c.loop-at.ops.items c.loop-at.starts.items z) whole (c.loop-at.invariant.front outer st) in
    c.resolve.ensures.fault outer c.args.ops.now.items (sym c.loop-at.invariant.first) (rw c.as_slice.ensures front)

pub read_segment-returns-in_err-head-clause-fault : goal.read_segment-returns-in_err-head-clause-fault
read_segment-returns-in_err-head-clause-fault t c =
    let p = err_from_is_err_and c.from_residual.result c.from_residual.ensures.1 in
    rw (p.1, p.2) (head_fault c.args.most c.args.deep c.args.bytes.now c.args.at c.in_err-head.field-0.0 c.in_err-head.ensures.fault)

pub read_segment-returns-then-head-clause-read : goal.read_segment-returns-then-head-clause-read
read_segment-returns-then-head-clause-read t c = λ outer st.
    let r = c.in_ok-head.ensures.read in
    plain_segment outer c.args.most c.args.deep c.args.bytes.now c.args.at c.args.ops.now.items c.push_op.new.ops.items c.op_of.result c.in_ok-head.head r c.if-head.true c.in_ok-push_op.ensures.pushed (c.op_of.ensures.means c.args.bytes.now outer st r.lies (block_of_head (head_in c.args.bytes.now c.in_ok-head.head) (take (c.in_ok-head.head.end - c.args.at) (drop c.args.at c.args.bytes.now)) r.spelled))

pub read_segment-returns-then-deep-eq0-clause-fault : goal.read_segment-returns-then-deep-eq0-clause-fault
read_segment-returns-then-deep-eq0-clause-fault t c =
    too_deep c.args.most c.args.deep c.args.bytes.now c.args.at c.in_ok-head.head c.fault_at.result c.in_ok-head.ensures.read c.if-head.false c.if-deep-eq0.true c.fault_at.ensures.kind c.fault_at.ensures.place

pub read_segment-overflow_sub-from : goal.read_segment-overflow_sub-from
read_segment-overflow_sub-from t c =
    let s = (entry_slice c.args.bytes.now c.args.at c.in_ok-head.head c.in_ok-head.ensures.read c.if-head.false).0 in
    omega (arith, s)

pub read_segment-returns-in-Ok-clause-read : goal.read_segment-returns-in-Ok-clause-read
read_segment-returns-in-Ok-clause-read t c = λ outer st.
    let r = c.in_ok-head.ensures.read in
    let h = c.in_ok-head.head in
    let s = entry_slice c.args.bytes.now c.args.at h r c.if-head.false in
    let all : c.len-number.result ≡ length c.args.ops.now.items = search (rules, c.len-number.ensures) in
    let inside = r.inside in
    let place = part_stands outer c.args.bytes.now c.args.base (h.end - h.block.len) h.end st (omega arith) inside in
    entry_segment outer c.args.most c.args.deep (c.args.deep - 1) c.args.bytes.now _ c.args.at c.len-number.result c.args.ops.now.items c.push_op.new.ops.items c.read_level.new.ops.items c.hold.new.ops.items c.op_of.result h r c.if-head.false (omega (arith, c.if-deep-eq0.false)) s.1 c.in_ok-push_op.ensures.pushed (c.op_of.ensures.means c.args.bytes.now outer st r.lies (block_of_head (head_in c.args.bytes.now c.in_ok-head.head) (take (c.in_ok-head.head.end - c.args.at) (drop c.args.at c.args.bytes.now)) r.spelled)) all (c.in-Ok.ensures.read outer place) c.hold.ensures.held

pub read_segment-returns-in-Err-clause-fault : goal.read_segment-returns-in-Err-clause-fault
read_segment-returns-in-Err-clause-fault t c =
    let h = c.in_ok-head.head in
    let s = entry_slice c.args.bytes.now c.args.at h c.in_ok-head.ensures.read c.if-head.false in
    inner_fault c.args.most c.args.deep (c.args.deep - 1) c.args.bytes.now _ c.args.at (h.end - h.block.len) h c.in_ok-head.ensures.read c.if-head.false (omega (arith, c.if-deep-eq0.false)) s.1 refl c.in-Err.refusal c.moved.result c.moved.ensures c.in-Err.ensures.fault

pub read_level-resolve-requires-clause-front : goal.read_level-resolve-requires-clause-front
read_level-resolve-requires-clause-front t c =
    let (outer, st) = stands_somewhere c.args.base c.args.bytes.now in
    let whole : c.loop-at.at ≡ length c.args.bytes.now = omega (arith, c.loop-at.invariant.inside, c.loop-at-test.false) in
    let front : IsFront outer c.args.most c.args.deep c.args.bytes.now c.args.ops.now.items c.loop-at.ops.items c.loop-at.starts.items (length c.args.bytes.now) = subst (λ (z : ℕ). IsFront outer c.args.most c.args.deep c.args.bytes.now c.args.ops.now.items c.loop-at.ops.items c.loop-at.starts.items z) whole (c.loop-at.invariant.front outer st) in
    (outer, c.args.ops.now.items, sym c.loop-at.invariant.first, rw c.as_slice.ensures front)

pub read_level-returns-clause-chain : goal.read_level-returns-clause-chain
read_level-returns-clause-chain t c = λ outer st.
    let whole : c.args.base + c.loop-at.at ≡ c.args.base + length c.args.bytes.now = omega (arith, c.loop-at.invariant.inside, c.loop-at-test.false) in
    on_ok c.resolve.result _ (c.resolve.ensures.chain outer c.args.base (c.args.base + length c.args.bytes.now) c.args.ops.now.items (sym c.loop-at.invariant.first) (subst (λ (z : ℕ). IsChained outer c.args.base z c.args.ops.now.items c.loop-at.ops.items) whole (c.loop-at.invariant.chain outer st)))

pub read_segment-returns-then-head-clause-chain : goal.read_segment-returns-then-head-clause-chain
read_segment-returns-then-head-clause-chain t c = λ outer st.
    chained_plain outer c.args.bytes.now c.args.base c.args.at c.op_of.result c.in_ok-head.head st c.in_ok-head.ensures.read c.op_of.ensures.at c.op_of.ensures.means c.op_of.ensures.block c.args.ops.now.items c.push_op.new.ops.items c.if-head.true c.in_ok-push_op.ensures.pushed

pub read_segment-returns-in-Ok-clause-chain : goal.read_segment-returns-in-Ok-clause-chain
read_segment-returns-in-Ok-clause-chain t c = λ outer st.
    let r = c.in_ok-head.ensures.read in
    let h = c.in_ok-head.head in
    let all : c.len-number.result ≡ length c.args.ops.now.items = search (rules, c.len-number.ensures) in
    let inside = r.inside in
    let place = part_stands outer c.args.bytes.now c.args.base (h.end - h.block.len) h.end st (omega arith) inside in
    chained_entry outer c.args.bytes.now c.args.base c.args.at c.op_of.result h st r c.op_of.ensures.at c.op_of.ensures.means c.op_of.ensures.block c.args.ops.now.items c.push_op.new.ops.items c.read_level.new.ops.items c.hold.new.ops.items c.len-number.result c.if-head.false c.in_ok-push_op.ensures.pushed all _ (length_part (h.end - h.block.len) (h.end - (h.end - h.block.len)) c.args.bytes.now (omega (arith, inside))) (c.in-Ok.ensures.chain outer place) c.hold.ensures.held

pub read_segment-returns-in_err-head-clause-kept : goal.read_segment-returns-in_err-head-clause-kept
read_segment-returns-in_err-head-clause-kept t c = kept_same c.args.ops.now.items _ refl

pub read_segment-returns-in_err-push_op-clause-kept : goal.read_segment-returns-in_err-push_op-clause-kept
read_segment-returns-in_err-push_op-clause-kept t c =
    kept_same c.args.ops.now.items c.push_op.new.ops.items c.in_err-push_op.ensures.err

pub read_segment-returns-then-head-clause-kept : goal.read_segment-returns-then-head-clause-kept
read_segment-returns-then-head-clause-kept t c = (c.op_of.result ∷ [], c.in_ok-push_op.ensures.pushed)

pub read_segment-returns-then-deep-eq0-clause-kept : goal.read_segment-returns-then-deep-eq0-clause-kept
read_segment-returns-then-deep-eq0-clause-kept t c = (c.op_of.result ∷ [], c.in_ok-push_op.ensures.pushed)

pub read_segment-returns-in-Ok-clause-kept : goal.read_segment-returns-in-Ok-clause-kept
read_segment-returns-in-Ok-clause-kept t c =
    let all : c.len-number.result ≡ length c.args.ops.now.items = search (rules, c.len-number.ensures) in
    kept_held c.args.ops.now.items c.push_op.new.ops.items c.read_level.new.ops.items c.hold.new.ops.items c.op_of.result c.len-number.result c.in_ok-push_op.ensures.pushed all c.read_level.ensures.kept c.hold.ensures.held

pub read_segment-returns-in-Err-clause-kept : goal.read_segment-returns-in-Err-clause-kept
read_segment-returns-in-Err-clause-kept t c =
    kept_on c.args.ops.now.items c.push_op.new.ops.items c.read_level.new.ops.items (c.op_of.result ∷ [], c.in_ok-push_op.ensures.pushed) c.read_level.ensures.kept

pub read_level-returns-in_err-head-clause-kept : goal.read_level-returns-in_err-head-clause-kept
read_level-returns-in_err-head-clause-kept t c =
    kept_on c.args.ops.now.items c.loop-at.ops.items c.read_segment.new.ops.items (kept_chain c.args.bytes.now c.args.base c.args.base (c.args.base + c.loop-at.at) c.args.ops.now.items c.loop-at.ops.items c.loop-at.invariant.chain) c.read_segment.ensures.kept

pub read_level-returns-in_err-push_start-clause-kept : goal.read_level-returns-in_err-push_start-clause-kept
read_level-returns-in_err-push_start-clause-kept t c =
    kept_on c.args.ops.now.items c.loop-at.ops.items c.read_segment.new.ops.items (kept_chain c.args.bytes.now c.args.base c.args.base (c.args.base + c.loop-at.at) c.args.ops.now.items c.loop-at.ops.items c.loop-at.invariant.chain) c.read_segment.ensures.kept

pub read_level-returns-clause-kept : goal.read_level-returns-clause-kept
read_level-returns-clause-kept t c =
    kept_chain c.args.bytes.now c.args.base c.args.base (c.args.base + c.loop-at.at) c.args.ops.now.items c.resolve.new.ops.items (λ outer st. c.resolve.ensures.chain outer c.args.base (c.args.base + c.loop-at.at) c.args.ops.now.items (sym c.loop-at.invariant.first) (c.loop-at.invariant.chain outer st))
