use Rattle.std.proofs.Common.{rules, ◌≡◌, ◌<◌, ◌*◌, ◌^◌, ◌∙◌, length, ap, arith}
use Rattle.entry_arena.specs.Arena.{Arena}
use Rattle.unit_write.proofs.ExprLaws.{next_below, more_put, all_ends}
use Rattle.unit_write.proofs.expressions.write_expressions.Goals as goal

pub overflow_cast-len : goal.overflow_cast-len
overflow_cast-len c =
    let f = c.args.unit.now.forest in
    let count : c.value_count-number-end.result ≡ length f.values = c.value_count-number-end.ensures ∙ ap (λ (g : Arena). length g.values) c.forest.ensures in
    let below = next_below f c.args.operations.now c.args.numbers.now.items c.put_expression.ensures.order c.loop-number.number c.loop-number.ends.items c.loop-number.bytes.items c.put_expression.new.out.items (omega (arith, count, c.loop-number-test.true)) c.loop-number.invariant c.in_ok-put_expression.ensures.put in
    let long : c.len.result ≡ length c.put_expression.new.out.items = search rules in
    let room : 3 * length f.section < 2 ^ 32 = c.requires.room in
    omega (arith, below, long, room)

pub loop-number-preserved : goal.loop-number-preserved
loop-number-preserved c =
    let f = c.args.unit.now.forest in
    let count : c.value_count-number-end.result ≡ length f.values = c.value_count-number-end.ensures ∙ ap (λ (g : Arena). length g.values) c.forest.ensures in
    more_put f c.args.operations.now c.args.numbers.now.items c.put_expression.ensures.order c.loop-number.number c.loop-number.ends.items c.loop-number.bytes.items c.put_expression.new.out.items (omega (arith, count, c.loop-number-test.true)) c.loop-number.invariant c.in_ok-put_expression.ensures.put c.push.new.self.items _ (search rules) c.in_ok-push.ensures.items

pub returns-clause-ends : goal.returns-clause-ends
returns-clause-ends c =
    let f = c.args.unit.now.forest in
    let count : c.value_count-number-end.result ≡ length f.values = c.value_count-number-end.ensures ∙ ap (λ (g : Arena). length g.values) c.forest.ensures in
    all_ends f c.args.operations.now c.args.numbers.now.items c.loop-number.number c.loop-number.ends.items c.loop-number.bytes.items (omega (arith, count, c.loop-number-test.false)) c.loop-number.invariant
