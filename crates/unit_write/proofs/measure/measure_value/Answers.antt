use Rattle.std.proofs.Common.{◌≡◌, ◌≤◌, ◌+◌, ◌∙◌, ℕ, List, length, sym, ap, subst, arith}
use Rattle.dw_base.specs.declared.fault.Span.{Span}
use Rattle.expr_ops.specs.declared.op.Op.{Op}
use Rattle.expr_ops.specs.Ops.{all_meant}
use Rattle.expr_ops.specs.Shortest.{fixed_length}
use Rattle.expr_ops.specs.Slots.{slots_among}
use Rattle.form_codec.specs.declared.value.Value.TheVariants as value
use Rattle.form_codec.specs.Values.{bytes_in, LiesIn}
use Rattle.entry_arena.specs.Arena.{Arena, value_at}
use Rattle.entry_arena.specs.Operations.{ops_of}
use Rattle.entry_arena.specs.Order.{IsInOrder}
use Rattle.entry_read.specs.Expressions.{IsExprAt}
use Rattle.unit_write.proofs.SlotMeasures.{value_same, value_read, expr_fixed, expr_slots, value_measured}
use Rattle.unit_write.proofs.measure.measure_value.Goals.{in-LocalRef, in-Expr, in_default}
use Rattle.unit_write.proofs.measure.measure_value.Goals as goal

pub bytes-requires : goal.bytes-requires
bytes-requires c =
    let f : Arena = c.args.unit.now.forest in
    let is : value_at f.values c.args.number ≡ value.Expr c.in-Expr.span = value_read f c.forest-forest.result.now c.args.number c.value.result _ c.forest-forest.ensures c.value.ensures c.in-Expr.is in
    let order = subst (λ (z : Arena). IsInOrder z) c.forest-forest.ensures c.entries-entries.ensures.order in
    let inside : c.in-Expr.span.at + c.in-Expr.span.len ≤ length f.section = subst (LiesIn (length f.section)) is (order.spans.inside c.args.number c.requires.number) in
    let same : length c.forest-forest.result.now.section ≡ length f.section = ap (λ (z : Arena). length z.section) c.forest-forest.ensures in
    omega arith

pub fixed_len-fixed-requires : goal.fixed_len-fixed-requires
fixed_len-fixed-requires c =
    let f : Arena = c.args.unit.now.forest in
    let k : ℕ = c.args.number in
    let span : Span = c.in-Expr.span in
    let is : value_at f.values k ≡ value.Expr span = value_read f c.forest-forest.result.now k c.value.result _ c.forest-forest.ensures c.value.ensures c.in-Expr.is in
    let here : IsExprAt f k span = record { inside = c.requires.number; is = is } in
    let bytes : c.bytes.result.now ≡ bytes_in f.section span = c.bytes.ensures ∙ ap (λ (z : Arena). bytes_in z.section span) c.forest-forest.ensures in
    let same : fixed_length (all_meant c.bytes.result.now c.of_value-ops.result.now) ≡ fixed_length (all_meant (bytes_in f.section span) (ops_of c.args.operations.now k)) = ap (λ (z : List ℕ). fixed_length (all_meant z c.of_value-ops.result.now)) bytes ∙ ap (λ (z : List Op). fixed_length (all_meant (bytes_in f.section span) z)) c.of_value-ops.ensures in
    let most = expr_fixed f c.args.operations.now c.requires.operations c.slots_are_few.ensures.opcodes k span here in
    let room = c.requires.short k span here in
    record { fits = omega (arith, same, most, room) }

pub overflow_cast-fixed : goal.overflow_cast-fixed
overflow_cast-fixed c =
    let f : Arena = c.args.unit.now.forest in
    let k : ℕ = c.args.number in
    let span : Span = c.in-Expr.span in
    let is : value_at f.values k ≡ value.Expr span = value_read f c.forest-forest.result.now k c.value.result _ c.forest-forest.ensures c.value.ensures c.in-Expr.is in
    let here : IsExprAt f k span = record { inside = c.requires.number; is = is } in
    let bytes : c.bytes.result.now ≡ bytes_in f.section span = c.bytes.ensures ∙ ap (λ (z : Arena). bytes_in z.section span) c.forest-forest.ensures in
    let same : c.fixed_len-fixed.result ≡ fixed_length (all_meant (bytes_in f.section span) (ops_of c.args.operations.now k)) = c.fixed_len-fixed.ensures ∙ ap (λ (z : List ℕ). fixed_length (all_meant z c.of_value-ops.result.now)) bytes ∙ ap (λ (z : List Op). fixed_length (all_meant (bytes_in f.section span) z)) c.of_value-ops.ensures in
    let most = expr_fixed f c.args.operations.now c.requires.operations c.slots_are_few.ensures.opcodes k span here in
    let room = c.requires.short k span here in
    omega (arith, same, most, room)

pub overflow_cast-fixed-in-Expr : goal.overflow_cast-fixed-in-Expr
overflow_cast-fixed-in-Expr c =
    let f : Arena = c.args.unit.now.forest in
    let k : ℕ = c.args.number in
    let span : Span = c.in-Expr.span in
    let is : value_at f.values k ≡ value.Expr span = value_read f c.forest-forest.result.now k c.value.result _ c.forest-forest.ensures c.value.ensures c.in-Expr.is in
    let here : IsExprAt f k span = record { inside = c.requires.number; is = is } in
    let same : c.slot_count.result ≡ slots_among (all_meant (bytes_in f.section span) (ops_of c.args.operations.now k)) = c.slot_count.ensures (bytes_in f.section span) ∙ ap (λ (z : List Op). slots_among (all_meant (bytes_in f.section span) z)) c.of_value-ops.ensures in
    let most = expr_slots f c.args.operations.now c.requires.operations c.slots_are_few.ensures.opcodes k span here in
    let room = c.requires.short k span here in
    omega (arith, same, most, room)

pub overflow_add-fixed : goal.overflow_add-fixed
overflow_add-fixed c =
    let f : Arena = c.args.unit.now.forest in
    let k : ℕ = c.args.number in
    let span : Span = c.in-Expr.span in
    let is : value_at f.values k ≡ value.Expr span = value_read f c.forest-forest.result.now k c.value.result _ c.forest-forest.ensures c.value.ensures c.in-Expr.is in
    let here : IsExprAt f k span = record { inside = c.requires.number; is = is } in
    let same : c.slot_count.result ≡ slots_among (all_meant (bytes_in f.section span) (ops_of c.args.operations.now k)) = c.slot_count.ensures (bytes_in f.section span) ∙ ap (λ (z : List Op). slots_among (all_meant (bytes_in f.section span) z)) c.of_value-ops.ensures in
    let most = expr_slots f c.args.operations.now c.requires.operations c.slots_are_few.ensures.opcodes k span here in
    let room = c.requires.short k span here in
    omega (arith, same, most, room)

pub returns : goal.returns
returns c =
    let f : Arena = c.args.unit.now.forest in
    let k : ℕ = c.args.number in
    let operations = c.requires.operations in
    let same = value_same f c.forest-forest.result.now k c.value.result c.forest-forest.ensures c.value.ensures in
    let next = value_measured f c.args.operations.now operations k c.requires.number c.args.measured.now (record { fixed = c.push.new.self; slots = c.push-2.new.self }) c.requires.before c.match-value.fixed c.in_ok-push.ensures.items c.in_ok-push-2.ensures.items in
    elim c.match-value.branch [
      | in-LocalRef w ↦ next.local w.in-LocalRef.field-0 (sym same ∙ w.in-LocalRef.is) w.fixed-is
      | in-Expr w ↦
          let span : Span = w.in-Expr.span in
          let bytes : w.bytes.result.now ≡ bytes_in f.section span = w.bytes.ensures ∙ ap (λ (z : Arena). bytes_in z.section span) c.forest-forest.ensures in
          let fixed : w.fixed_len-fixed.result ≡ fixed_length (all_meant (bytes_in f.section span) (ops_of c.args.operations.now k)) = w.fixed_len-fixed.ensures ∙ ap (λ (z : List ℕ). fixed_length (all_meant z w.of_value-ops.result.now)) bytes ∙ ap (λ (z : List Op). fixed_length (all_meant (bytes_in f.section span) z)) w.of_value-ops.ensures in
          let slots : w.slot_count.result ≡ slots_among (all_meant (bytes_in f.section span) (ops_of c.args.operations.now k)) = w.slot_count.ensures (bytes_in f.section span) ∙ ap (λ (z : List Op). slots_among (all_meant (bytes_in f.section span) z)) w.of_value-ops.ensures in
          next.expr span (sym same ∙ w.in-Expr.is) w.fixed_len-fixed.result w.slot_count.result fixed slots w.fixed-is
      | in_default w ↦ next.other (λ span e. w.in_default.not-Expr span (same ∙ e)) (λ n e. w.in_default.not-LocalRef n (same ∙ e)) w.fixed-is
    ]
