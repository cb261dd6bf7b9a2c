use Rattle.std.proofs.Common.{◌<◌, ◌∙◌, ℕ, length, sym, refl, arith, below_more}
use Rattle.std.proofs.lemmas.Bool.{false≢true}
use Rattle.expr_ops.specs.Drafts.{op_at}
use Rattle.value_links.specs.Lists.{owner_unit}
use Rattle.same_meaning.specs.inside.Expressions.{MeanSameOperation}
use Rattle.same_meaning.proofs.OperationLists.{op_block, op_named, ops_same, count_same, op_same}
use Rattle.same_meaning.proofs.expressions.mean_same_ops.Goals as goal

pub returns-then-old-new : goal.returns-then-old-new
returns-then-old-new c = λ r s read holds again held. (
  λ wrong. absurd (false≢true wrong),
  λ same. absurd (c.if-old-new.true (count_same r.links (owner_unit r.links c.args.old.now.owner) c.args.old.now.bytes.now c.args.old.now.ops.now s.links (owner_unit s.links c.args.new.now.owner) c.args.new.now.bytes.now c.args.new.now.ops.now same)),
)

pub mean_same_op-requires-clause-block : goal.mean_same_op-requires-clause-block
mean_same_op-requires-clause-block c = op_block c.args.old.now.bytes.now c.args.old.now.ops.now c.loop-i.i c.requires.ops c.loop-i-test.true

pub mean_same_op-requires-clause-other_block : goal.mean_same_op-requires-clause-other_block
mean_same_op-requires-clause-other_block c =
    let inside : c.loop-i.i < length c.args.new.now.ops.now = omega (arith, c.if-old-new.false, c.loop-i-test.true) in
    op_block c.args.new.now.bytes.now c.args.new.now.ops.now c.loop-i.i c.requires.other_ops inside

pub mean_same_op-requires-clause-named : goal.mean_same_op-requires-clause-named
mean_same_op-requires-clause-named c = λ r s read holds again held.
    let linked = c.requires.linked r s read holds again held in
    let inside : c.loop-i.i < length c.args.new.now.ops.now = omega (arith, c.if-old-new.false, c.loop-i-test.true) in (
      op_named r.links (owner_unit r.links c.args.old.now.owner) c.args.old.now.bytes.now c.args.old.now.ops.now c.loop-i.i linked.0 c.loop-i-test.true,
      op_named s.links (owner_unit s.links c.args.new.now.owner) c.args.new.now.bytes.now c.args.new.now.ops.now c.loop-i.i linked.1 inside,
    )

pub returns-then-not-mean_same_op : goal.returns-then-not-mean_same_op
returns-then-not-mean_same_op c = λ r s read holds again held. (
  λ wrong. absurd (false≢true wrong),
  λ same. sym c.if-not-mean_same_op.true ∙ (c.mean_same_op.ensures r s read holds again held).1 (op_same r.links (owner_unit r.links c.args.old.now.owner) c.args.old.now.bytes.now c.args.old.now.ops.now s.links (owner_unit s.links c.args.new.now.owner) c.args.new.now.bytes.now c.args.new.now.ops.now same c.loop-i.i c.loop-i-test.true),
)

pub loop-i-preserved : goal.loop-i-preserved
loop-i-preserved c = λ r s read holds again held.
    below_more (λ (k : ℕ). MeanSameOperation r.links (owner_unit r.links c.args.old.now.owner) c.args.old.now.bytes.now (op_at c.args.old.now.ops.now k) s.links (owner_unit s.links c.args.new.now.owner) c.args.new.now.bytes.now (op_at c.args.new.now.ops.now k)) c.loop-i.i (c.loop-i.invariant r s read holds again held)
    ((c.mean_same_op.ensures r s read holds again held).0 c.if-not-mean_same_op.false)

pub returns : goal.returns
returns c = λ r s read holds again held. (
  λ _. ops_same r.links (owner_unit r.links c.args.old.now.owner) c.args.old.now.bytes.now c.args.old.now.ops.now s.links (owner_unit s.links c.args.new.now.owner) c.args.new.now.bytes.now c.args.new.now.ops.now c.if-old-new.false (λ k inside. c.loop-i.invariant r s read holds again held k (omega (arith, inside, c.loop-i-test.false))),
  λ _. refl,
)
