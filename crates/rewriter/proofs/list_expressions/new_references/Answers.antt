use Rattle.std.proofs.Common.{◌∙◌, take, sym}
use Rattle.rewriter.specs.inside.ListNumbers.{owner_in}
use Rattle.rewriter.proofs.ListReferences.{no_references, reference_more, reference_none, references_narrow}
use Rattle.rewriter.proofs.list_expressions.new_references.Goals as goal

pub loop-op-init : goal.loop-op-init
loop-op-init c = no_references c.args.world.now c.args.places.now.items (owner_in c.args.world.now c.args.owner) c.args.ops.now c.new-refs.result.items c.new-refs.ensures.items

pub loop-op-preserved-then-not-has_reference : goal.loop-op-preserved-then-not-has_reference
loop-op-preserved-then-not-has_reference c =
    reference_none c.args.world.now c.args.places.now.items (owner_in c.args.world.now c.args.owner) c.args.ops.now c.loop-op.op-index c.loop-op.refs.items c.loop-op.invariant c.loop-op-test.true (sym c.has_reference.ensures ∙ c.if-not-has_reference.true)

pub loop-op-preserved : goal.loop-op-preserved
loop-op-preserved c =
    reference_more c.args.world.now c.args.places.now.items (owner_in c.args.world.now c.args.owner) c.args.ops.now c.loop-op.op-index c.loop-op.refs.items c.push.new.self.items c.number_in.result c.loop-op.invariant c.loop-op-test.true (sym c.has_reference.ensures ∙ c.if-not-has_reference.false) c.number_in.ensures.fits c.number_in.ensures.number c.in_ok-push.ensures.items

pub returns-clause-narrow : goal.returns-clause-narrow
returns-clause-narrow c =
    references_narrow c.args.world.now c.args.places.now.items (owner_in c.args.world.now c.args.owner) (take c.loop-op.op-index c.args.ops.now) c.loop-op.refs.items c.loop-op.invariant
