use Rattle.std.proofs.Common.{◌≡◌, ◌≤◌, ◌<◌, ◌+◌, ◌-◌, ◌∙◌, ◌++◌, ◌∷◌, [], ℕ, length, drop, get_or, sym, ap, arith, false}
use Rattle.list_model.specs.declared.item.Item.{Item}
use Rattle.list_model.specs.Potentials.{potential}
use Rattle.list_least.specs.Plans.{bounds_of}
use Rattle.list_least.proofs.Filling.{filled_end, filled_more, filled_least, last_filled, filled_from, potential_there, potential_end}
use Rattle.list_least.proofs.fill.left_under.Goals.{then-to-potentials, else-to-potentials}
use Rattle.list_least.proofs.fill.left_under.Goals as goal

pub loop-i-init : goal.loop-i-init
loop-i-init c =
    let to : ℕ = c.far_under-to.result in
    let e : c.push.new.self.items ≡ c.if-to-potentials.left ∷ [] = c.in_ok-push.ensures.items ∙ ap (λ z. z ++ c.if-to-potentials.left ∷ []) c.new-bytes.ensures.items in
    let z : 0 ≡ to - to = omega arith in
    let is : c.if-to-potentials.left ≡ potential (drop to c.args.potentials.now) = elim c.if-to-potentials.branch [
      | then-to-potentials w ↦ w.left-is ∙ sym (potential_there c.args.potentials.now to w.if-to-potentials.true)
      | else-to-potentials w ↦ w.left-is ∙ sym (potential_end c.args.potentials.now to w.if-to-potentials.false)
    ] in (
      c.far_under-to.ensures.order,
      omega arith,
      omega (arith, ap length e),
      ap (λ l. get_or l 0 0) (sym e) ∙ ap (λ n. get_or c.push.new.self.items n 0) z,
      λ addr context items are. filled_end addr context c.args.base items c.args.potentials.now c.push.new.self.items to c.if-to-potentials.left e is,
    )

pub loop-i-preserved : goal.loop-i-preserved
loop-i-preserved c =
    let d : Item = record { start = 0; end = 0; whole = false; expr = record { at = 0; len = 0 } } in
    let i : ℕ = c.loop-i.i - 1 in
    let to : ℕ = c.far_under-to.result in
    let next : c.loop-i.i ≡ i + 1 = omega (arith, c.loop-i-test.true) in
    let e = c.in_ok-push-2.ensures.items in (
      omega (arith, c.loop-i-test.true),
      omega (arith, c.loop-i.invariant.1),
      omega (arith, c.in_ok-push-2.ensures.len, c.loop-i.invariant.2, next, c.loop-i.invariant.1),
      last_filled i c.loop-i.i to c.min-left.result c.loop-i.bytes.items c.push-in-loop-i.new.self.items c.loop-i.invariant.2 next c.loop-i.invariant.1 e,
      λ addr context items are.
          let inside : i < length items = omega (arith, next, c.loop-i.invariant.1, c.far_under-to.ensures.inside, are.same) in
          let p = c.piece_at.ensures.piece addr context (bounds_of (get_or items i d)) (are.each i inside) in
          filled_more addr context c.args.base items c.args.potentials.now c.loop-i.bytes.items c.push-in-loop-i.new.self.items i c.loop-i.i to d c.piece_at.result.cost c.loop-i.left c.min-left.result (omega (arith, c.requires.same, are.same)) next c.loop-i.invariant.1 (omega (arith, c.far_under-to.ensures.inside, are.same)) (c.loop-i.invariant.4 addr context items are) c.loop-i.invariant.3 (p.cost c.args.base c.piece_at.ensures.below (omega arith)) (omega (arith, c.min-left.ensures, c.saturating_add.ensures)) e,
    )

pub returns : goal.returns
returns c addr context items are =
    let e : c.loop-i.i ≡ c.args.from = omega (arith, c.loop-i-test.false, c.loop-i.invariant.0) in
    let inside : c.far_under-to.result ≤ length items = omega (arith, c.far_under-to.ensures.inside, are.same) in
    let filled = filled_from addr context c.args.base items c.args.potentials.now c.loop-i.bytes.items c.loop-i.i c.args.from c.far_under-to.result e (c.loop-i.invariant.4 addr context items are) in
    record {
      order = c.far_under-to.ensures.order;
      inside = inside;
      filled = filled;
      least = filled_least addr context c.args.base items c.args.potentials.now c.loop-i.bytes.items c.args.from c.far_under-to.result c.far_under-to.ensures.order inside (omega (arith, c.ranges.base.fits)) filled (λ lt. c.far_under-to.ensures.far (omega (arith, lt, are.same)) addr context items are);
    }
