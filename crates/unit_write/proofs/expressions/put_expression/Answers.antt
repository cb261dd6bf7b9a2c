use Rattle.std.proofs.Common.{◌≡◌, ◌≤◌, ◌<◌, ◌+◌, ◌^◌, ◌∙◌, List, ℕ, length, sym, subst}
use Rattle.std.specs.List.{All}
use Rattle.std.proofs.lemmas.Result.{on_ok_weaker}
use Rattle.expr_ops.specs.declared.op.Op.{Op}
use Rattle.expr_ops.specs.Puts.{Adds}
use Rattle.expr_ops.specs.Shortest.{IsWrittenShortest}
use Rattle.entry_arena.specs.Arena.{Arena}
use Rattle.entry_arena.specs.Order.{IsInOrder}
use Rattle.entry_read.specs.Expressions.{IsExprAt}
use Rattle.unit_write.specs.NewExpressions.{refs_of}
use Rattle.unit_write.proofs.ExprLaws.{read_expr, span_inside, lent_expr, expression_is_put, none_is_put}
use Rattle.unit_write.proofs.expressions.put_expression.Goals as goal

pub bytes-requires : goal.bytes-requires
bytes-requires c =
    let f = c.args.unit.now.forest in
    let at : IsExprAt f c.args.number c.in-Expr.span = read_expr f c.forest-forest.result.now c.args.number c.value.result c.in-Expr.span c.forest-forest.ensures c.value.ensures c.requires.number c.in-Expr.is in
    let order = subst IsInOrder c.forest-forest.ensures c.entries-entries.ensures.order in
    subst (λ (g : Arena). c.in-Expr.span.at + c.in-Expr.span.len ≤ length g.section) (sym c.forest-forest.ensures) (span_inside f c.args.number c.in-Expr.span order at)

pub write_shortest-requires-clause-old : goal.write_shortest-requires-clause-old
write_shortest-requires-clause-old c =
    let f = c.args.unit.now.forest in
    let at : IsExprAt f c.args.number c.in-Expr.span = read_expr f c.forest-forest.result.now c.args.number c.value.result c.in-Expr.span c.forest-forest.ensures c.value.ensures c.requires.number c.in-Expr.is in
    lent_expr f c.forest-forest.result.now c.args.operations.now c.args.number c.in-Expr.span c.bytes.result.now c.of_value.result.now c.requires.operations at c.forest-forest.ensures c.bytes.ensures c.of_value.ensures

pub write_shortest-requires-clause-few : goal.write_shortest-requires-clause-few
write_shortest-requires-clause-few c = subst (λ (z : List Op). length z < 2 ^ 32) (sym c.of_value.ensures) c.new_refs.ensures.few

pub write_shortest-requires-clause-refs : goal.write_shortest-requires-clause-refs
write_shortest-requires-clause-refs c = subst (λ (z : List ℕ). All (λ (n : ℕ). n < 2 ^ 32) z) (sym c.deref.ensures.value) c.in_ok-refs-in-Expr.ensures.narrow

pub returns-in_ok-refs-in-Expr-clause-put : goal.returns-in_ok-refs-in-Expr-clause-put
returns-in_ok-refs-in-Expr-clause-put c =
    let f = c.args.unit.now.forest in
    let at : IsExprAt f c.args.number c.in-Expr.span = read_expr f c.forest-forest.result.now c.args.number c.value.result c.in-Expr.span c.forest-forest.ensures c.value.ensures c.requires.number c.in-Expr.is in
    let refs : c.deref.result.now ≡ refs_of c.args.operations.now c.args.numbers.now.items c.args.number = c.deref.ensures.value ∙ c.in_ok-refs-in-Expr.ensures.refs in
    let narrow = subst (λ (z : List ℕ). All (λ (n : ℕ). n < 2 ^ 32) z) (sym c.deref.ensures.value) c.in_ok-refs-in-Expr.ensures.narrow in
    let order = subst IsInOrder c.forest-forest.ensures c.entries-entries.ensures.order in
    let spelled = lent_expr f c.forest-forest.result.now c.args.operations.now c.args.number c.in-Expr.span c.bytes.result.now c.of_value.result.now c.requires.operations at c.forest-forest.ensures c.bytes.ensures c.of_value.ensures in
    on_ok_weaker c.write_shortest.result (λ (a : Adds (IsWrittenShortest c.deref.result.now c.bytes.result.now c.of_value.result.now) c.args.out.now.items c.write_shortest.new.out.items). expression_is_put c.shortest_is_few.ensures f c.forest-forest.result.now c.args.operations.now c.args.numbers.now.items c.deref.result.now c.args.number c.in-Expr.span c.bytes.result.now c.of_value.result.now c.args.out.now.items c.write_shortest.new.out.items order at spelled narrow c.forest-forest.ensures c.bytes.ensures c.of_value.ensures refs a) c.write_shortest.ensures.ok

pub returns-in_default-clause-put : goal.returns-in_default-clause-put
returns-in_default-clause-put c =
    let f = c.args.unit.now.forest in
    none_is_put f c.forest-forest.result.now c.args.operations.now c.args.numbers.now.items c.args.number c.value.result c.args.out.now.items c.forest-forest.ensures c.value.ensures (λ span e. c.in_default.not-Expr span e)
