use Rattle.std.proofs.Common.{◌≡◌, ◌≤◌, ◌<◌, ◌+◌, ◌-◌, ◌^◌, ◌∙◌, ℕ, suc, Vec, Global, List, [], ◌∷◌, ◌++◌, length, take, drop, true, false, sym, ap, refl, subst, arith}
use Rattle.slot_layout.specs.declared.slots.Slot.{Slot}
use Rattle.slot_layout.specs.Rows.{most_slots}
use Rattle.expr_ops.specs.declared.op.Op.{Op}
use Rattle.expr_ops.specs.Expressions.{Operation}
use Rattle.expr_ops.specs.Drafts.{op_at, is_slot}
use Rattle.expr_ops.specs.Ops.{meant, all_meant}
use Rattle.expr_ops.specs.Shortest.{fixed_length}
use Rattle.expr_ops.specs.Slots.{slots_among, length_aim, op_aim, expression_aims}
use Rattle.unit_slots.specs.inside.Rows.{NamesThere, IsRowFor}
use Rattle.unit_slots.proofs.RowAims.{rest_is, expression_length}
use Rattle.unit_slots.proofs.RowLaws.{AreBegun, length_row, begun, begun_none, begun_one, number_few, named_there, behind_fits, all_begun, expression_fits}
use Rattle.unit_slots.proofs.rows.push_expression_slots.Goals as goal
use Rattle.unit_slots.proofs.rows.push_expression_slots.Goals.{then-has_slot+in_ok-push-2, else-has_slot}

pub length_slot-requires-clause-fits : goal.length_slot-requires-clause-fits
length_slot-requires-clause-fits c = expression_fits (all_meant c.args.bytes.now c.args.ops.now) c.args.bytes.now c.requires.operations.spelled c.requires.brief

pub length_slot-requires-clause-few : goal.length_slot-requires-clause-few
length_slot-requires-clause-few c =
    let number : c.len.result ≡ length c.args.slots.now.items = c.len.ensures ∙ c.args.slots.now.ok.0 in
    let long : length (expression_aims (all_meant c.args.bytes.now c.args.ops.now)) ≡ suc (slots_among (all_meant c.args.bytes.now c.args.ops.now)) = expression_length (all_meant c.args.bytes.now c.args.ops.now) in
    let few : length c.args.slots.now.items + length (expression_aims (all_meant c.args.bytes.now c.args.ops.now)) ≤ most_slots = c.requires.few in
    omega (arith, number, long, few)

pub loop-k-init : goal.loop-k-init
loop-k-init c =
    let slots : List Slot = c.args.slots.now.items in
    let os : List Operation = all_meant c.args.bytes.now c.args.ops.now in
    let number : c.len.result ≡ length slots = c.len.ensures ∙ c.args.slots.now.ok.0 in
    let fits : fixed_length os < 2 ^ 34 = expression_fits os c.args.bytes.now c.requires.operations.spelled c.requires.brief in
    begun c.args.unit.now c.args.spots.now c.args.bytes.now c.args.ops.now slots c.push.new.self.items c.length_slot.result c.in_ok-push.ensures.items (λ held own. subst (λ (z : ℕ). IsRowFor c.args.unit.now held own z (length_aim os) c.length_slot.result) number (length_row c.args.unit.now held own c.len.result os c.length_slot.result c.length_slot.ensures fits))

pub op_slot-slot-requires-clause-named : goal.op_slot-slot-requires-clause-named
op_slot-slot-requires-clause-named c =
    let bytes : List ℕ = c.args.bytes.now in
    let ops : List Op = c.args.ops.now in
    let k : ℕ = c.loop-k.k in
    let op : Op = op_at ops k in
    let has : is_slot op.code op.a ≡ true = sym c.has_slot.ensures ∙ c.if-has_slot.true in
    let named : NamesThere c.args.unit.now (op_aim (meant bytes op) (all_meant bytes (drop (k + 1) ops))) = named_there c.args.unit.now c.args.spots.now bytes ops k c.args.slots.now.items c.loop-k.slots.items c.loop-k.invariant op _ c.loop-k-test.true refl has c.requires.named in
    subst (λ (z : List Op). NamesThere c.args.unit.now (op_aim (meant bytes op) (all_meant bytes z))) (sym (rest_is ops (k + 1))) named

pub op_slot-slot-requires-clause-fits : goal.op_slot-slot-requires-clause-fits
op_slot-slot-requires-clause-fits c =
    let ops : List Op = c.args.ops.now in
    let k : ℕ = c.loop-k.k in
    subst (λ (z : List Op). fixed_length (all_meant c.args.bytes.now z) < 2 ^ 34) (sym (rest_is ops (k + 1))) (behind_fits c.args.unit.now c.args.spots.now c.args.bytes.now ops k c.args.slots.now.items c.loop-k.slots.items c.loop-k.invariant (op_at ops k) _ c.loop-k-test.true refl (expression_fits (all_meant c.args.bytes.now ops) c.args.bytes.now c.requires.operations.spelled c.requires.brief))

pub op_slot-slot-requires-clause-few : goal.op_slot-slot-requires-clause-few
op_slot-slot-requires-clause-few c =
    let ops : List Op = c.args.ops.now in
    let k : ℕ = c.loop-k.k in
    let now : List Slot = c.loop-k.slots.items in
    let has : is_slot (op_at ops k).code (op_at ops k).a ≡ true = sym c.has_slot.ensures ∙ c.if-has_slot.true in
    let few : suc (length now) + slots_among (all_meant c.args.bytes.now (drop (k + 1) ops)) ≤ most_slots = number_few c.args.unit.now c.args.spots.now c.args.bytes.now ops k c.args.slots.now.items now c.loop-k.invariant (op_at ops k) _ c.loop-k-test.true refl has most_slots c.requires.few in
    let number : c.len-then-has_slot.result ≡ length now = c.len-then-has_slot.ensures ∙ c.loop-k.slots.ok.0 in
    let same : slots_among (all_meant c.args.bytes.now (take (length ops - (k + 1)) (drop (k + 1) ops))) ≡ slots_among (all_meant c.args.bytes.now (drop (k + 1) ops)) = ap (λ (z : List Op). slots_among (all_meant c.args.bytes.now z)) (rest_is ops (k + 1)) in
    omega (arith, few, number, same)

pub loop-k-preserved : goal.loop-k-preserved
loop-k-preserved c =
    let bytes : List ℕ = c.args.bytes.now in
    let ops : List Op = c.args.ops.now in
    let k : ℕ = c.loop-k.k in
    let op : Op = op_at ops k in
    let now : List Slot = c.loop-k.slots.items in
    let old : List Slot = c.args.slots.now.items in
    elim c.if-has_slot.branch [
      | then-has_slot+in_ok-push-2 w ↦
          let has : is_slot op.code op.a ≡ true = sym c.has_slot.ensures ∙ w.if-has_slot.true in
          let number : w.len-then-has_slot.result ≡ length now = w.len-then-has_slot.ensures ∙ c.loop-k.slots.ok.0 in
          let pushed : c.if-has_slot.slots.items ≡ now ++ w.op_slot-slot.result ∷ [] = ap (λ (v : Vec Slot Global). v.items) w.slots-is ∙ w.in_ok-push-2.ensures.items in
          begun_one c.args.unit.now c.args.spots.now bytes ops k old now c.loop-k.invariant op _ c.loop-k-test.true refl has c.if-has_slot.slots.items w.op_slot-slot.result pushed (λ held own spots. subst (λ (z : ℕ). IsRowFor c.args.unit.now held own z (op_aim (meant bytes op) (all_meant bytes (drop (k + 1) ops))) w.op_slot-slot.result) number (subst (λ (z : List Op). IsRowFor c.args.unit.now held own w.len-then-has_slot.result (op_aim (meant bytes op) (all_meant bytes z)) w.op_slot-slot.result) (rest_is ops (k + 1)) (w.op_slot-slot.ensures held own spots)))
      | else-has_slot w ↦
          let none : is_slot op.code op.a ≡ false = sym c.has_slot.ensures ∙ w.if-has_slot.false in
          let same : c.if-has_slot.slots.items ≡ now = ap (λ (v : Vec Slot Global). v.items) w.slots-is in
          subst (AreBegun c.args.unit.now c.args.spots.now bytes ops (k + 1) old) (sym same) (begun_none c.args.unit.now c.args.spots.now bytes ops k old now c.loop-k.invariant op _ c.loop-k-test.true refl none)
    ]

pub returns : goal.returns
returns c = λ held own aims spots rows.
    all_begun c.args.unit.now c.args.spots.now c.args.bytes.now c.args.ops.now c.loop-k.k c.args.slots.now.items c.loop-k.slots.items c.loop-k.invariant (omega arith) held own aims spots rows
