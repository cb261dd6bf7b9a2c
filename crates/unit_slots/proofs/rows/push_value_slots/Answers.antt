use Rattle.std.proofs.Common.{◌≡◌, ◌∙◌, ℕ, List, sym, ap, subst}
use Rattle.std.specs.List.{All}
use Rattle.dw_base.specs.declared.fault.Span.{Span}
use Rattle.expr_ops.specs.Expressions.{Operation}
use Rattle.expr_ops.specs.Ops.{all_meant}
use Rattle.expr_ops.specs.Slots.{Aim, expression_aims}
use Rattle.form_codec.specs.declared.value.Value.TheVariants as value
use Rattle.form_codec.specs.Values.{bytes_in}
use Rattle.entry_arena.specs.Arena.{Arena, value_at}
use Rattle.entry_read.specs.Slots.{aims_before, meaning_at, operations_in}
use Rattle.unit_slots.specs.inside.Rows.{NamesThere}
use Rattle.unit_slots.proofs.RowValues.{value_read, span_inside, expr_ops_are, expr_aims_are, local_aims_are, local_row}
use Rattle.unit_slots.proofs.rows.push_value_slots.Goals as goal

pub bytes-requires : goal.bytes-requires
bytes-requires c =
    let f : Arena = c.args.unit.now.forest in
    let is : value_at f.values c.args.number ≡ value.Expr c.in-Expr.span = value_read f c.forest-forest.result.now c.args.number c.value.result (value.Expr c.in-Expr.span) c.forest-forest.ensures c.value.ensures c.in-Expr.is in
    span_inside f c.forest-forest.result.now c.args.number c.in-Expr.span c.forest-forest.ensures c.stands_in_order.ensures c.requires.number is

pub push_expression_slots-requires-clause-named : goal.push_expression_slots-requires-clause-named
push_expression_slots-requires-clause-named c =
    let f : Arena = c.args.unit.now.forest in
    let k : ℕ = c.args.number in
    let ops : ℕ → List Operation = operations_in f c.args.operations.now in
    let span : Span = c.in-Expr.span in
    let is : value_at f.values k ≡ value.Expr span = value_read f c.forest-forest.result.now k c.value.result (value.Expr span) c.forest-forest.ensures c.value.ensures c.in-Expr.is in
    let bytes : c.bytes.result.now ≡ bytes_in f.section span = c.bytes.ensures ∙ ap (λ (z : Arena). bytes_in z.section span) c.forest-forest.ensures in
    let same : all_meant c.bytes.result.now c.of_value-ops.result.now ≡ operations_in f c.args.operations.now k = ap (λ (z : List ℕ). all_meant z c.of_value-ops.result.now) bytes ∙ ap (all_meant (bytes_in f.section span)) c.of_value-ops.ensures ∙ sym (expr_ops_are f c.args.operations.now k span is) in
    subst (λ (z : List Aim). All (NamesThere c.args.unit.now) z) (expr_aims_are f ops k span is ∙ ap expression_aims (sym same)) c.requires.named

pub returns-in_ok-push-in-LocalRef : goal.returns-in_ok-push-in-LocalRef
returns-in_ok-push-in-LocalRef c = λ own spots rows.
    let f : Arena = c.args.unit.now.forest in
    let k : ℕ = c.args.number in
    let n : ℕ = c.in-LocalRef.n in
    let ops : ℕ → List Operation = operations_in f c.args.operations.now in
    let is : value_at f.values k ≡ value.LocalRef n = value_read f c.forest-forest.result.now k c.value.result (value.LocalRef n) c.forest-forest.ensures c.value.ensures c.in-LocalRef.is in
    local_row c.args.unit.now ops own c.args.spots.now spots (aims_before (meaning_at f) ops k) _ n c.args.slots.now.items c.push.new.self.items c.slot.result (local_aims_are f ops k n is) c.in_ok-push-in-LocalRef.ensures.items (λ listed. c.slot.ensures.row ops own listed spots) c.slot.ensures.small rows
