use Rattle.std.proofs.Common.{◌≡◌, ◌<◌, ◌+◌, ◌^◌, ◌∙◌, rules, length, sym, ap, subst, arith}
use Rattle.form_codec.specs.Values.{bytes_in}
use Rattle.entry_arena.specs.Arena.{Arena, value_at}
use Rattle.entry_read.specs.Expressions.{IsExprAt}
use Rattle.entry_read.proofs.ExpressionLaws.{expr_there, expr_inside, expr_room, read_alone, front_skips, front_takes, fault_there}
use Rattle.entry_read.proofs.expressions.read_expressions.Goals as goal

pub bytes-requires : goal.bytes-requires
bytes-requires c =
    let f = c.forest-forest.result.now in
    let here = expr_there f c.loop-number.number c.value_count-number-end.result c.value.result c.in-Expr.span c.loop-number-test.true c.value_count-number-end.ensures c.value.ensures c.in-Expr.is in
    expr_inside f c.stands_in_order.ensures c.loop-number.number c.in-Expr.span here

pub overflow_add-origin : goal.overflow_add-origin
overflow_add-origin c =
    let f = c.forest-forest.result.now in
    let room : c.args.origin + length f.section < 2 ^ 64 = subst (λ (z : Arena). c.args.origin + length z.section < 2 ^ 64) (sym c.forest-forest.ensures) c.requires.room in
    let here = expr_there f c.loop-number.number c.value_count-number-end.result c.value.result c.in-Expr.span c.loop-number-test.true c.value_count-number-end.ensures c.value.ensures c.in-Expr.is in
    omega (arith, room, expr_inside f c.stands_in_order.ensures c.loop-number.number c.in-Expr.span here)

pub push_expr-requires-clause-placed : goal.push_expr-requires-clause-placed
push_expr-requires-clause-placed c =
    let f = c.forest-forest.result.now in
    let room : c.args.origin + length f.section < 2 ^ 64 = subst (λ (z : Arena). c.args.origin + length z.section < 2 ^ 64) (sym c.forest-forest.ensures) c.requires.room in
    let here = expr_there f c.loop-number.number c.value_count-number-end.result c.value.result c.in-Expr.span c.loop-number-test.true c.value_count-number-end.ensures c.value.ensures c.in-Expr.is in
    rw c.bytes.ensures (expr_room f c.stands_in_order.ensures c.loop-number.number c.in-Expr.span here c.args.origin room)

pub returns-in_err-push_expr-clause-fault : goal.returns-in_err-push_expr-clause-fault
returns-in_err-push_expr-clause-fault c =
    let f = c.args.unit.now.forest in
    let span = c.in-Expr.span in
    let there = expr_there c.forest-forest.result.now c.loop-number.number c.value_count-number-end.result c.value.result span c.loop-number-test.true c.value_count-number-end.ensures c.value.ensures c.in-Expr.is in
    let here : IsExprAt f c.loop-number.number span = subst (λ (z : Arena). IsExprAt z c.loop-number.number span) c.forest-forest.ensures there in
    let bytes : c.bytes.result.now ≡ bytes_in f.section span = c.bytes.ensures ∙ ap (λ (z : Arena). bytes_in z.section span) c.forest-forest.ensures in
    let fault = rw bytes at c.in_err-push_expr.ensures.fault in
    let refused = fault_there c.args.reach f c.loop-number.number c.args.origin span here c.in_err-push_expr.field-0.0 fault in
    search (rules, refused)

pub loop-number-preserved-in_default : goal.loop-number-preserved-in_default
loop-number-preserved-in_default c =
    let f = c.args.unit.now.forest in
    let n = c.loop-number.number in
    let value : c.value.result ≡ value_at f.values n = c.value.ensures ∙ ap (λ (z : Arena). value_at z.values n) c.forest-forest.ensures in
    front_skips c.args.reach f c.loop-number.held n c.loop-number.invariant (λ span stands. c.in_default.not-Expr span (value ∙ stands.is))

pub loop-number-preserved : goal.loop-number-preserved
loop-number-preserved c =
    let f = c.args.unit.now.forest in
    let span = c.in-Expr.span in
    let there = expr_there c.forest-forest.result.now c.loop-number.number c.value_count-number-end.result c.value.result span c.loop-number-test.true c.value_count-number-end.ensures c.value.ensures c.in-Expr.is in
    let here : IsExprAt f c.loop-number.number span = subst (λ (z : Arena). IsExprAt z c.loop-number.number span) c.forest-forest.ensures there in
    let bytes : c.bytes.result.now ≡ bytes_in f.section span = c.bytes.ensures ∙ ap (λ (z : Arena). bytes_in z.section span) c.forest-forest.ensures in
    let read = read_alone c.args.reach c.bytes.result.now (bytes_in f.section span) c.clear.new.self.items c.push_expr.new.ops.items c.deref.result.now bytes c.clear.ensures.items c.deref.ensures.value c.in_ok-push_expr.ensures.read in
    front_takes c.args.reach f c.loop-number.held c.loop-number.number c.loop-number.invariant span here c.deref.result.now c.push_all.new.held c.in_ok-push_all.ensures read
