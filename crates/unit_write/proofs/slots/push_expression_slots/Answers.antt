use Rattle.std.proofs.Common.{◌≡◌, ◌<◌, ◌+◌, ◌-◌, ◌^◌, ◌∙◌, ℕ, suc, vec_len, List, length, take, drop, true, sym, ap, refl, subst, arith}
use Rattle.std.proofs.lemmas.List.{get_or_read}
use Rattle.expr_ops.specs.declared.op.Op.{Op}
use Rattle.expr_ops.specs.Expressions.{Operation}
use Rattle.expr_ops.specs.Drafts.{op_at, is_slot}
use Rattle.expr_ops.specs.Ops.{meant, all_meant}
use Rattle.expr_ops.specs.Shortest.{fixed_length}
use Rattle.expr_ops.specs.Slots.{slots_among, length_aim, op_aim}
use Rattle.slot_layout.specs.declared.slots.Slot.{Slot}
use Rattle.unit_write.specs.declared.marks.Marks.{Marks}
use Rattle.unit_write.specs.declared.slots.Spot.{Spot}
use Rattle.unit_write.specs.declared.slots.Spot.TheVariants.{Nothing as NoSpot}
use Rattle.unit_write.specs.Slots.{spot_at}
use Rattle.unit_write.specs.inside.Marks.{slot_for, HasSpotFor}
use Rattle.unit_write.proofs.SlotsMade.{rest_is, length_few, begun, begun_one, number_inside, number_few, has_spot_for, behind_fits}
use Rattle.unit_write.proofs.slots.push_expression_slots.Goals as goal

pub length_slot-requires-clause-few : goal.length_slot-requires-clause-few
length_slot-requires-clause-few c =
    let number : c.len.result ≡ length c.args.slots.now.items = c.len.ensures ∙ c.args.slots.now.ok.0 in
    let few = length_few c.args.marks.now (length c.args.slots.now.items) (all_meant c.args.bytes.now c.args.ops.now) c.args.spots.now.items c.requires.spots c.requires.few in
    omega (arith, number, few)

pub loop-k-init : goal.loop-k-init
loop-k-init c =
    let slots : List Slot = c.args.slots.now.items in
    let os : List Operation = all_meant c.args.bytes.now c.args.ops.now in
    let spot : Spot = spot_at c.args.spots.now.items (length slots) in
    let number : c.len.result ≡ length slots = c.len.ensures ∙ c.args.slots.now.ok.0 in
    let is : c.length_slot.result ≡ slot_for c.args.marks.now spot (length slots) (length_aim os) = c.length_slot.ensures c.args.marks.now spot ∙ ap (λ (z : ℕ). slot_for c.args.marks.now spot z (length_aim os)) number in
    begun c.args.marks.now c.args.spots.now.items c.args.bytes.now c.args.ops.now slots c.push.new.self.items c.length_slot.result c.in_ok-push.ensures.items is

pub index-requires : goal.index-requires
index-requires c =
    let ops : List Op = c.args.ops.now in
    let has : is_slot (op_at ops c.loop-k.k).code (op_at ops c.loop-k.k).a ≡ true = sym c.has_slot.ensures ∙ c.if-not-has_slot.false in
    let inside : length c.loop-k.slots.items < length c.args.spots.now.items = number_inside c.args.marks.now c.args.spots.now.items c.args.bytes.now ops c.loop-k.k c.args.slots.now.items c.loop-k.slots.items c.loop-k.invariant (op_at ops c.loop-k.k) _ c.loop-k-test.true refl has c.requires.spots in
    let number : c.len-number.result ≡ length c.loop-k.slots.items = c.len-number.ensures ∙ c.loop-k.slots.ok.0 in
    let all : vec_len c.args.spots.now ≡ length c.args.spots.now.items = c.args.spots.now.ok.0 in
    omega (arith, inside, number, all)

pub op_slot-slot-requires-clause-spot : goal.op_slot-slot-requires-clause-spot
op_slot-slot-requires-clause-spot c =
    let marks : Marks = c.args.marks.now in
    let spots : List Spot = c.args.spots.now.items in
    let bytes : List ℕ = c.args.bytes.now in
    let ops : List Op = c.args.ops.now in
    let k : ℕ = c.loop-k.k in
    let op : Op = op_at ops k in
    let now : List Slot = c.loop-k.slots.items in
    let old : List Slot = c.args.slots.now.items in
    let has : is_slot op.code op.a ≡ true = sym c.has_slot.ensures ∙ c.if-not-has_slot.false in
    let inside : length now < length spots = number_inside marks spots bytes ops k old now c.loop-k.invariant op _ c.loop-k-test.true refl has c.requires.spots in
    let number : c.len-number.result ≡ length now = c.len-number.ensures ∙ c.loop-k.slots.ok.0 in
    let read : c.index.result.now ≡ spot_at spots c.len-number.result = get_or_read spots c.len-number.result c.index.result.now (omega (arith, inside, number)) c.index.ensures NoSpot in
    let first : HasSpotFor marks (op_aim (meant bytes op) (all_meant bytes (drop (k + 1) ops))) (spot_at spots (length now)) = has_spot_for marks spots bytes ops k old now c.loop-k.invariant op _ c.loop-k-test.true refl has c.requires.spots in
    let second : HasSpotFor marks (op_aim (meant bytes op) (all_meant bytes (drop (k + 1) ops))) c.index.result.now = subst (HasSpotFor marks (op_aim (meant bytes op) (all_meant bytes (drop (k + 1) ops)))) (sym (read ∙ ap (spot_at spots) number)) first in
    subst (λ (z : List Op). HasSpotFor marks (op_aim (meant bytes op) (all_meant bytes z)) c.index.result.now) (sym (rest_is ops (k + 1))) second

pub op_slot-slot-requires-clause-fits : goal.op_slot-slot-requires-clause-fits
op_slot-slot-requires-clause-fits c =
    let ops : List Op = c.args.ops.now in
    let k : ℕ = c.loop-k.k in
    subst (λ (z : List Op). fixed_length (all_meant c.args.bytes.now z) < 2 ^ 31) (sym (rest_is ops (k + 1))) (behind_fits c.args.marks.now c.args.spots.now.items c.args.bytes.now ops k c.args.slots.now.items c.loop-k.slots.items c.loop-k.invariant (op_at ops k) _ c.loop-k-test.true refl c.requires.fits)

pub op_slot-slot-requires-clause-few : goal.op_slot-slot-requires-clause-few
op_slot-slot-requires-clause-few c =
    let ops : List Op = c.args.ops.now in
    let k : ℕ = c.loop-k.k in
    let now : List Slot = c.loop-k.slots.items in
    let has : is_slot (op_at ops k).code (op_at ops k).a ≡ true = sym c.has_slot.ensures ∙ c.if-not-has_slot.false in
    let few : suc (length now) + slots_among (all_meant c.args.bytes.now (drop (k + 1) ops)) < 2 ^ 32 = number_few c.args.marks.now c.args.spots.now.items c.args.bytes.now ops k c.args.slots.now.items now c.loop-k.invariant (op_at ops k) _ c.loop-k-test.true refl has c.requires.spots c.requires.few in
    let number : c.len-number.result ≡ length now = c.len-number.ensures ∙ c.loop-k.slots.ok.0 in
    let same : slots_among (all_meant c.args.bytes.now (take (length ops - (k + 1)) (drop (k + 1) ops))) ≡ slots_among (all_meant c.args.bytes.now (drop (k + 1) ops)) = ap (λ (z : List Op). slots_among (all_meant c.args.bytes.now z)) (rest_is ops (k + 1)) in
    omega (arith, few, number, same)

pub loop-k-preserved : goal.loop-k-preserved
loop-k-preserved c =
    let marks : Marks = c.args.marks.now in
    let spots : List Spot = c.args.spots.now.items in
    let bytes : List ℕ = c.args.bytes.now in
    let ops : List Op = c.args.ops.now in
    let k : ℕ = c.loop-k.k in
    let op : Op = op_at ops k in
    let now : List Slot = c.loop-k.slots.items in
    let old : List Slot = c.args.slots.now.items in
    let has : is_slot op.code op.a ≡ true = sym c.has_slot.ensures ∙ c.if-not-has_slot.false in
    let inside : length now < length spots = number_inside marks spots bytes ops k old now c.loop-k.invariant op _ c.loop-k-test.true refl has c.requires.spots in
    let number : c.len-number.result ≡ length now = c.len-number.ensures ∙ c.loop-k.slots.ok.0 in
    let read : c.index.result.now ≡ spot_at spots c.len-number.result = get_or_read spots c.len-number.result c.index.result.now (omega (arith, inside, number)) c.index.ensures NoSpot in
    let is : c.op_slot-slot.result ≡ slot_for marks (spot_at spots (length now)) (length now) (op_aim (meant bytes op) (all_meant bytes (drop (k + 1) ops))) = c.op_slot-slot.ensures ∙ ap (λ (z : List Op). slot_for marks c.index.result.now c.len-number.result (op_aim (meant bytes op) (all_meant bytes z))) (rest_is ops (k + 1)) ∙ ap (λ (z : Spot). slot_for marks z c.len-number.result (op_aim (meant bytes op) (all_meant bytes (drop (k + 1) ops)))) read ∙ ap (λ (z : ℕ). slot_for marks (spot_at spots z) z (op_aim (meant bytes op) (all_meant bytes (drop (k + 1) ops)))) number in
    begun_one marks spots bytes ops k old now c.loop-k.invariant op _ c.loop-k-test.true refl has c.push-in-loop-k.new.self.items c.op_slot-slot.result c.in_ok-push-2.ensures.items is
