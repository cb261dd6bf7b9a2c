use Rattle.std.proofs.Common.{get_or, arith, false}
use Rattle.list_model.specs.declared.item.Item.{Item}
use Rattle.list_least.specs.Plans.{bounds_of}
use Rattle.list_least.proofs.Filling.{scan_from, scan_on, scan_stop}
use Rattle.list_least.proofs.fill.far_under.Goals as goal

pub loop-at-init : goal.loop-at-init
loop-at-init c = (
  omega arith,
  omega (arith, (c.type_inv.potentials c.args.from).fits),
  λ addr context items are. scan_from addr context c.args.base items c.args.potentials.now c.args.from (omega (arith, c.requires.inside, c.requires.same, c.if-from-costs.false)),
)

pub returns-then-saturating_sub-gt9-clause-far : goal.returns-then-saturating_sub-gt9-clause-far
returns-then-saturating_sub-gt9-clause-far c more addr context items are = scan_stop addr context c.args.base items c.args.potentials.now c.args.from c.loop-at.at c.loop-at.sum c.loop-at.best (omega (arith, c.loop-at.auto.at)) (omega (arith, more, c.requires.same)) (c.loop-at.invariant.2 addr context items are) (omega (arith, c.if-saturating_sub-gt9.true, c.saturating_sub.ensures, c.saturating_add-here.ensures))

pub loop-at-preserved : goal.loop-at-preserved
loop-at-preserved c =
    let d : Item = record { start = 0; end = 0; whole = false; expr = record { at = 0; len = 0 } } in (
      omega (arith, c.loop-at.invariant.0, c.piece_at-sum.ensures.few, c.loop-at.auto.at, (c.requires.known.3.each c.loop-at.at (omega (arith, c.loop-at-test.true, c.requires.known.3.same))).few),
      omega (arith, c.min-best.ensures, c.loop-at.invariant.1),
      λ addr context items are.
          let here = are.each c.loop-at.at (omega (arith, c.loop-at-test.true, are.same)) in
          let p = c.piece_at-sum.ensures.piece addr context (bounds_of (get_or items c.loop-at.at d)) here in
          scan_on addr context c.args.base items c.args.potentials.now c.args.from c.loop-at.at c.loop-at.sum c.loop-at.best c.piece_at-sum.result.cost c.min-best.result d (omega (arith, c.loop-at.auto.at)) (omega (arith, c.loop-at-test.true, are.same)) (omega (arith, c.requires.same, are.same)) (c.loop-at.invariant.2 addr context items are) (p.cost c.args.base c.piece_at-sum.ensures.below (omega arith)) (omega (arith, c.min-best.ensures, c.saturating_add-here.ensures, c.loop-at.invariant.1)),
    )
