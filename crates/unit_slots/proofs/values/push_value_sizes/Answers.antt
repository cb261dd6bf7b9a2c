use Rattle.std.proofs.Common.{◌≡◌, ◌∙◌, drop, List, ℕ, sym, subst}
use Rattle.std.specs.Prelude.{OnOk}
use Rattle.std.proofs.lemmas.Result.{on_ok_weaker}
use Rattle.form_codec.specs.declared.value.Value.TheVariants as value
use Rattle.form_codec.specs.Values.{bytes_in}
use Rattle.leb_codec.specs.Leb.{Uleb}
use Rattle.entry_arena.specs.Arena.{value_at}
use Rattle.unit_slots.specs.inside.Added.{Begins, AddsSizes, HasExpressionSizes}
use Rattle.unit_slots.proofs.ValueSizes.{other_added, reference_added, length_begins, operations_are, expression_added}
use Rattle.unit_slots.proofs.values.push_value_sizes.Goals as goal

pub push_expression_sizes-requires-clause-counted : goal.push_expression_sizes-requires-clause-counted
push_expression_sizes-requires-clause-counted c =
    let f = c.args.forest.now in
    let stands = c.requires.stands in
    subst (λ (z : List ℕ). Begins Uleb (drop c.args.from z)) (sym c.section.ensures)
    (length_begins f c.args.operations.now c.args.number c.args.from c.args.to stands.0 stands.1 stands.2 stands.3 c.requires.placed c.in-Expr.span (sym c.value.ensures ∙ c.in-Expr.is))

pub returns-in-LocalRef-clause-added : goal.returns-in-LocalRef-clause-added
returns-in-LocalRef-clause-added c =
    let f = c.args.forest.now in
    let stands = c.requires.stands in
    on_ok_weaker c.push_size.result
    (reference_added f c.args.operations.now c.args.number c.args.from c.args.to stands.0 stands.1 stands.2 stands.3 c.requires.placed c.in-LocalRef.field-0 c.args.sizes.now.items c.push_size.new.sizes.items (sym c.value.ensures ∙ c.in-LocalRef.is))
    c.push_size.ensures.pushed

pub returns-in-Expr-clause-added : goal.returns-in-Expr-clause-added
returns-in-Expr-clause-added c =
    let f = c.args.forest.now in
    let held = c.args.operations.now in
    let stands = c.requires.stands in
    let is : value_at f.values c.args.number ≡ value.Expr c.in-Expr.span = sym c.value.ensures ∙ c.in-Expr.is in
    let are = operations_are f held c.args.number c.args.from c.args.to stands.0 stands.1 stands.2 stands.3 c.requires.placed c.in-Expr.span is c.requires.operations c.requires.known c.of_value-ops.result.now c.of_value-ops.ensures in
    let ops = c.of_value-ops.result.now in
    let by_section : OnOk c.push_expression_sizes.result (AddsSizes (HasExpressionSizes (drop c.args.from f.section) (bytes_in f.section c.in-Expr.span) ops) c.args.sizes.now.items c.push_expression_sizes.new.sizes.items) =
    subst (λ (z : List ℕ). OnOk c.push_expression_sizes.result (AddsSizes (HasExpressionSizes (drop c.args.from z) (bytes_in z c.in-Expr.span) ops) c.args.sizes.now.items c.push_expression_sizes.new.sizes.items)) c.section.ensures c.push_expression_sizes.ensures.added in
    on_ok_weaker c.push_expression_sizes.result
    (expression_added f held c.args.number c.args.from c.args.to stands.0 stands.1 stands.2 stands.3 c.requires.placed c.in-Expr.span is ops c.args.sizes.now.items c.push_expression_sizes.new.sizes.items c.of_value-ops.ensures are)
    by_section

pub returns-in_default : goal.returns-in_default
returns-in_default c =
    let f = c.args.forest.now in
    let stands = c.requires.stands in
    record {
      added = other_added f c.args.operations.now c.args.number c.args.from c.args.to stands.0 stands.1 stands.2 stands.3 c.requires.placed c.args.sizes.now.items (λ n is. c.in_default.not-LocalRef n (c.value.ensures ∙ is)) (λ span is. c.in_default.not-Expr span (c.value.ensures ∙ is));
      few = c.requires.few;
    }
