use Rattle.std.proofs.Common.{◌≡◌, ◌≤◌, ◌<◌, ◌+◌, ◌^◌, ◌∙◌, ℕ, vec_len, List, length, sym, ap, subst, arith}
use Rattle.std.proofs.lemmas.List.{get_or_read}
use Rattle.dw_base.specs.declared.fault.Span.{Span}
use Rattle.leb_codec.specs.Layout.{uleb}
use Rattle.slot_layout.specs.declared.slots.Slot.{Slot}
use Rattle.expr_ops.specs.Expressions.{Operation}
use Rattle.expr_ops.specs.Ops.{all_meant}
use Rattle.expr_ops.specs.Shortest.{fixed_length}
use Rattle.expr_ops.specs.Slots.{expression_aims}
use Rattle.expr_ops.specs.Slots.Aim.{Place}
use Rattle.form_codec.specs.declared.value.Value.TheVariants as value
use Rattle.form_codec.specs.Values.{bytes_in, LiesIn}
use Rattle.entry_arena.specs.Arena.{Arena, value_at}
use Rattle.entry_arena.specs.Order.{IsInOrder}
use Rattle.entry_read.specs.Slots.{operations_in, slots_before}
use Rattle.unit_write.specs.declared.marks.Marks.{Marks}
use Rattle.unit_write.specs.declared.slots.Spot.{Spot}
use Rattle.unit_write.specs.declared.slots.Spot.TheVariants.{Nothing as NoSpot}
use Rattle.unit_write.specs.Slots.{spot_at}
use Rattle.unit_write.specs.inside.Marks.{slot_for, HasSpot, HaveSpots}
use Rattle.unit_write.proofs.SlotMeasures.{value_read, expr_ops_are}
use Rattle.unit_write.proofs.SlotsMade.{local_spot, local_made, expr_spots}
use Rattle.unit_write.proofs.slots.push_value_slots.Goals as goal

pub index-spot-requires : goal.index-spot-requires
index-spot-requires c =
    let f : Arena = c.args.unit.now.forest in
    let k : ℕ = c.args.number in
    let ops : ℕ → List Operation = operations_in f c.args.operations.now in
    let is : value_at f.values k ≡ value.LocalRef c.in-LocalRef.field-0 = value_read f c.forest-forest.result.now k c.value.result _ c.forest-forest.ensures c.value.ensures c.in-LocalRef.is in
    let inside : slots_before f ops k < length c.args.spots.now.items = (local_spot c.args.marks.now f ops c.args.spots.now.items k c.requires.number c.in-LocalRef.field-0 is c.requires.spots).0 in
    let number : c.len.result ≡ slots_before f ops k = c.len.ensures ∙ c.args.slots.now.ok.0 ∙ c.requires.before.count in
    let all : vec_len c.args.spots.now ≡ length c.args.spots.now.items = c.args.spots.now.ok.0 in
    omega (arith, inside, number, all)

pub slot-requires : goal.slot-requires
slot-requires c =
    let f : Arena = c.args.unit.now.forest in
    let k : ℕ = c.args.number in
    let spots : List Spot = c.args.spots.now.items in
    let ops : ℕ → List Operation = operations_in f c.args.operations.now in
    let is : value_at f.values k ≡ value.LocalRef c.in-LocalRef.field-0 = value_read f c.forest-forest.result.now k c.value.result _ c.forest-forest.ensures c.value.ensures c.in-LocalRef.is in
    let own = local_spot c.args.marks.now f ops spots k c.requires.number c.in-LocalRef.field-0 is c.requires.spots in
    let inside : slots_before f ops k < length spots = own.0 in
    let number : c.len.result ≡ slots_before f ops k = c.len.ensures ∙ c.args.slots.now.ok.0 ∙ c.requires.before.count in
    let read : c.index-spot.result.now ≡ spot_at spots c.len.result = get_or_read spots c.len.result c.index-spot.result.now (omega (arith, inside, number)) c.index-spot.ensures NoSpot in
    subst (HasSpot c.args.marks.now) (sym (read ∙ ap (spot_at spots) number)) own.1

pub bytes-requires : goal.bytes-requires
bytes-requires c =
    let f : Arena = c.args.unit.now.forest in
    let is : value_at f.values c.args.number ≡ value.Expr c.in-Expr.span = value_read f c.forest-forest.result.now c.args.number c.value.result _ c.forest-forest.ensures c.value.ensures c.in-Expr.is in
    let order = subst (λ (z : Arena). IsInOrder z) c.forest-forest.ensures c.entries-entries.ensures.order in
    let inside : c.in-Expr.span.at + c.in-Expr.span.len ≤ length f.section = subst (LiesIn (length f.section)) is (order.spans.inside c.args.number c.requires.number) in
    let same : length c.forest-forest.result.now.section ≡ length f.section = ap (λ (z : Arena). length z.section) c.forest-forest.ensures in
    omega arith

pub push_expression_slots-requires-clause-fits : goal.push_expression_slots-requires-clause-fits
push_expression_slots-requires-clause-fits c =
    let f : Arena = c.args.unit.now.forest in
    let k : ℕ = c.args.number in
    let span : Span = c.in-Expr.span in
    let is : value_at f.values k ≡ value.Expr span = value_read f c.forest-forest.result.now k c.value.result _ c.forest-forest.ensures c.value.ensures c.in-Expr.is in
    let bytes : c.bytes.result.now ≡ bytes_in f.section span = c.bytes.ensures ∙ ap (λ (z : Arena). bytes_in z.section span) c.forest-forest.ensures in
    let same : all_meant c.bytes.result.now c.of_value-ops.result.now ≡ operations_in f c.args.operations.now k = ap (λ (z : List ℕ). all_meant z c.of_value-ops.result.now) bytes ∙ ap (all_meant (bytes_in f.section span)) c.of_value-ops.ensures ∙ sym (expr_ops_are f c.args.operations.now c.requires.operations k span (record { inside = c.requires.number; is = is })) in
    subst (λ (z : List Operation). fixed_length z < 2 ^ 31) (sym same) (c.requires.fits k c.requires.number)

pub push_expression_slots-requires-clause-spots : goal.push_expression_slots-requires-clause-spots
push_expression_slots-requires-clause-spots c =
    let f : Arena = c.args.unit.now.forest in
    let k : ℕ = c.args.number in
    let spots : List Spot = c.args.spots.now.items in
    let ops : ℕ → List Operation = operations_in f c.args.operations.now in
    let span : Span = c.in-Expr.span in
    let is : value_at f.values k ≡ value.Expr span = value_read f c.forest-forest.result.now k c.value.result _ c.forest-forest.ensures c.value.ensures c.in-Expr.is in
    let bytes : c.bytes.result.now ≡ bytes_in f.section span = c.bytes.ensures ∙ ap (λ (z : Arena). bytes_in z.section span) c.forest-forest.ensures in
    let same : all_meant c.bytes.result.now c.of_value-ops.result.now ≡ ops k = ap (λ (z : List ℕ). all_meant z c.of_value-ops.result.now) bytes ∙ ap (all_meant (bytes_in f.section span)) c.of_value-ops.ensures ∙ sym (expr_ops_are f c.args.operations.now c.requires.operations k span (record { inside = c.requires.number; is = is })) in
    let own : HaveSpots c.args.marks.now (slots_before f ops k) (expression_aims (ops k)) spots = expr_spots c.args.marks.now f ops spots k c.requires.number span is c.requires.spots in
    let here = subst (λ (z : ℕ). HaveSpots c.args.marks.now z (expression_aims (ops k)) spots) (sym c.requires.before.count) own in
    subst (λ (z : List Operation). HaveSpots c.args.marks.now (length c.args.slots.now.items) (expression_aims z) spots) (sym same) here

pub returns-in_ok-push-in-LocalRef : goal.returns-in_ok-push-in-LocalRef
returns-in_ok-push-in-LocalRef c =
    let f : Arena = c.args.unit.now.forest in
    let k : ℕ = c.args.number in
    let spots : List Spot = c.args.spots.now.items in
    let marks : Marks = c.args.marks.now in
    let old : List Slot = c.args.slots.now.items in
    let n : ℕ = c.in-LocalRef.field-0 in
    let ops : ℕ → List Operation = operations_in f c.args.operations.now in
    let is : value_at f.values k ≡ value.LocalRef n = value_read f c.forest-forest.result.now k c.value.result _ c.forest-forest.ensures c.value.ensures c.in-LocalRef.is in
    let inside : slots_before f ops k < length spots = (local_spot marks f ops spots k c.requires.number n is c.requires.spots).0 in
    let number : c.len.result ≡ length old = c.len.ensures ∙ c.args.slots.now.ok.0 in
    let count : length old ≡ slots_before f ops k = c.requires.before.count in
    let read : c.index-spot.result.now ≡ spot_at spots c.len.result = get_or_read spots c.len.result c.index-spot.result.now (omega (arith, inside, number, count)) c.index-spot.ensures NoSpot in
    let slot : c.slot.result ≡ slot_for marks (spot_at spots (length old)) (length old) (Place uleb n) = c.slot.ensures (length old) n ∙ ap (λ (z : Spot). slot_for marks z (length old) (Place uleb n)) (read ∙ ap (spot_at spots) number) in
    local_made marks f ops spots k c.requires.number n is old c.push.new.self.items c.slot.result c.requires.before c.in_ok-push-in-LocalRef.ensures.items slot
