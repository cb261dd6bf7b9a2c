use Rattle.std.proofs.Common.{◌≡◌, ◌+◌, ◌∙◌, ℕ, List, [], ◌∷◌, drop, sym, ap, subst}
use Rattle.std.proofs.lemmas.List.{drop_more, drop_all}
use Rattle.expr_ops.specs.declared.op.Op.{Op}
use Rattle.expr_ops.specs.Drafts.{op_at}
use Rattle.expr_ops.specs.Ops.{meant, all_meant}
use Rattle.expr_ops.specs.Slots.{op_aim}
use Rattle.unit_write.specs.declared.slots.ListSlot.{ListSlot}
use Rattle.unit_write.specs.Slots.{IsListSlotFor}
use Rattle.unit_write.proofs.SlotsMade.{rest_is}
use Rattle.rewriter.specs.inside.Placed.{unit_in}
use Rattle.rewriter.proofs.SlotFronts.{AreOfFront, front_none, front_more, front_still, front_all}
use Rattle.rewriter.proofs.SlotsOfLists.{behind_fits, expression_slots}
use Rattle.rewriter.proofs.list_slots.push_expression.Goals as goal
use Rattle.rewriter.proofs.list_slots.push_expression.Goals.{then-has_slot+in_ok-push-2, else-has_slot}

pub loop-k-init : goal.loop-k-init
loop-k-init c =
    let unit = unit_in c.args.world.now.units c.args.unit in
    front_none (IsListSlotFor unit.forest unit.head.at) c.args.bytes.now c.args.ops.now c.args.slots.now.items c.push.new.self.items c.length_slot.result (c.length_slot.ensures unit.forest unit.head.at) c.in_ok-push.ensures.items

pub op_slot-requires-clause-names : goal.op_slot-requires-clause-names
op_slot-requires-clause-names c = c.requires.names c.loop-k.k (op_at [] 0) c.loop-k-test.true

pub op_slot-requires-clause-fits : goal.op_slot-requires-clause-fits
op_slot-requires-clause-fits c = behind_fits c.args.bytes.now (c.loop-k.k + 1) c.args.ops.now c.requires.fits

pub loop-k-preserved : goal.loop-k-preserved
loop-k-preserved c =
    let unit = unit_in c.args.world.now.units c.args.unit in
    let bytes : List ℕ = c.args.bytes.now in
    let ops : List Op = c.args.ops.now in
    let k : ℕ = c.loop-k.k in
    let op : Op = op_at ops k in
    let next : drop k ops ≡ op ∷ drop (k + 1) ops = drop_more ops k (op_at [] 0) c.loop-k-test.true in
    elim c.if-has_slot.branch [
      | then-has_slot+in_ok-push-2 w ↦
          let here : IsListSlotFor unit.forest unit.head.at (op_aim (meant bytes op) (all_meant bytes (drop (k + 1) ops))) w.op_slot.result = subst (λ (z : List Op). IsListSlotFor unit.forest unit.head.at (op_aim (meant bytes op) (all_meant bytes z)) w.op_slot.result) (rest_is ops (k + 1)) w.op_slot.ensures in
          front_more (IsListSlotFor unit.forest unit.head.at) bytes ops c.args.slots.now.items k op c.loop-k.slots.items next c.loop-k.invariant c.if-has_slot.slots.items w.op_slot.result (sym w.if-has_slot.ensures) here (ap (λ v. v.items) w.slots-is ∙ w.in_ok-push-2.ensures.items)
      | else-has_slot w ↦
          subst (λ (z : List ListSlot). AreOfFront (IsListSlotFor unit.forest unit.head.at) bytes ops (k + 1) c.args.slots.now.items z) (sym (ap (λ v. v.items) w.slots-is)) (front_still (IsListSlotFor unit.forest unit.head.at) bytes ops c.args.slots.now.items k op c.loop-k.slots.items next c.loop-k.invariant (sym w.if-has_slot.ensures))
    ]

pub returns : goal.returns
returns c =
    let unit = unit_in c.args.world.now.units c.args.unit in
    expression_slots unit c.args.bytes.now c.args.ops.now c.args.slots.now.items c.loop-k.slots.items c.requires.fits (front_all (IsListSlotFor unit.forest unit.head.at) c.args.bytes.now c.args.ops.now c.args.slots.now.items c.loop-k.k c.loop-k.slots.items (drop_all c.loop-k.k c.args.ops.now c.loop-k-test.false) c.loop-k.invariant)
