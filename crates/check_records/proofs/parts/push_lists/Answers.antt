use Rattle.std.proofs.Common.{◌≡◌, ◌∙◌, List, Vec, Global, length, ap, sym, true≢false, arith}
use Rattle.list_arena.specs.Held.{HeldList}
use Rattle.value_links.specs.Reading.{lists_of}
use Rattle.check_records.specs.declared.parts.Part.{Part}
use Rattle.check_records.proofs.FewLists.{few_lists}
use Rattle.check_records.proofs.PartLists.{adds_more, adds_still, frozen_out}
use Rattle.check_records.proofs.parts.push_lists.Goals.{then-classes+then-not-is_frozen+in_ok-push, else-classes, else-classes-via-then-classes+else-not-is_frozen, else-classes-via-else-classes}
use Rattle.check_records.proofs.parts.push_lists.Goals as goal

pub overflow_cast-number : goal.overflow_cast-number
overflow_cast-number c =
    let world = c.args.world.now in
    let (reach, is) = c.requires in
    let count : length c.lists-lists.result.now ≡ length (lists_of is.r c.args.kind) = ap (λ (z : List HeldList). length z) c.lists-lists.ensures.lists ∙ (is.holds.lists c.args.kind).count in
    let few = few_lists world.image reach is.r is.valid is.read c.args.kind c.loop-number.number (omega (arith, count, c.loop-number-test.true)) in
    omega (arith, few)

pub loop-number-preserved : goal.loop-number-preserved
loop-number-preserved c = elim c.if-classes.branch [
  | then-classes+then-not-is_frozen+in_ok-push w ↦
      adds_more c.args.classes c.args.world.now c.args.kind c.lists-lists.result.now c.lists-lists.ensures.lists c.args.parts.now.items c.loop-number.parts.items c.if-classes.parts.items c.loop-number.number w.is_frozen.result w.is_frozen.ensures c.loop-number.invariant
      w.if-classes.true w.if-not-is_frozen.true (ap (λ (z : Vec Part Global). z.items) w.parts-is ∙ w.in_ok-push.ensures.items)
  | else-classes w ↦
      adds_still c.args.classes c.args.world.now c.args.kind c.args.parts.now.items c.loop-number.parts.items c.if-classes.parts.items c.loop-number.number c.loop-number.invariant
      (elim w.else-classes.branch [
        | else-classes-via-then-classes+else-not-is_frozen v ↦
            frozen_out c.args.classes c.args.world.now c.args.kind c.lists-lists.result.now c.lists-lists.ensures.lists c.args.parts.now.items c.loop-number.parts.items c.if-classes.parts.items c.loop-number.number v.is_frozen.result v.is_frozen.ensures c.loop-number.invariant v.if-not-is_frozen.false
        | else-classes-via-else-classes v ↦ λ (any, live). true≢false (sym any ∙ v.if-classes.false)
      ]) (ap (λ (z : Vec Part Global). z.items) w.parts-is)
]
