use Rattle.std.proofs.Common.{◌-◌, ℕ, drop, get_or, arith, false}
use Rattle.std.specs.Prelude.{map, reverse}
use Rattle.list_model.specs.declared.item.Item.{Item}
use Rattle.list_least.specs.Plans.{bounds_of}
use Rattle.list_least.proofs.Back.{one_before_count}
use Rattle.list_least.proofs.Tails.{known_more, known_all, behind_count}
use Rattle.list_least.proofs.potentials.potentials_of.Goals as goal

pub loop-count-preserved : goal.loop-count-preserved
loop-count-preserved c =
    let d : Item = record { start = 0; end = 0; whole = false; expr = record { at = 0; len = 0 } } in
    let items = c.args.items.now in
    let count = c.loop-count.count in
    let i : ℕ = count - 1 in
    let item = bounds_of (get_or items i d) in
    let rest = map bounds_of (drop count items) in
    let known = c.loop-count.invariant.1 in
    let step = c.in_ok-step.ensures item rest (reverse c.loop-count.potentials.items) (c.requires.all.each i (omega (arith, c.loop-count.invariant.0, c.loop-count-test.true))) known.tail_of in (
      omega (arith, c.loop-count.invariant.0, c.loop-count-test.true),
      known_more c.args.addr.now c.args.context.now item rest (map bounds_of (drop i items)) c.loop-count.potentials.items c.push.new.self.items c.loop-count.choices.items c.push-in-loop-count.new.self.items c.loop-count.tail c.in_ok-step.step (one_before_count items i count d (omega (arith, c.loop-count-test.true)) (omega (arith, c.loop-count.invariant.0, c.loop-count-test.true))) c.in_ok-push.ensures.items c.in_ok-push-2.ensures.items (omega (arith, behind_count items count, c.requires.few, c.loop-count.invariant.0, c.loop-count-test.true)) known step,
    )

pub returns-clause-size : goal.returns-clause-size
returns-clause-size c =
    let known = known_all c.args.addr.now c.args.context.now c.args.items.now c.loop-count.count c.loop-count.potentials.items c.loop-count.choices.items c.loop-count.tail (omega (arith, c.loop-count-test.false)) c.loop-count.invariant.1 in
    c.size_under-size.ensures c.args.addr.now c.args.context.now (map bounds_of c.args.items.now) (reverse c.loop-count.potentials.items) known.tail_of
