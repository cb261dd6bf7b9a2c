use Rattle.std.proofs.Common.{ℕ, List, length, subst, sym}
use Rattle.abbrev_tables.specs.Written.{IsInOrder}
use Rattle.abbrev_tables.proofs.Puts.{are_used, written}
use Rattle.abbrev_tables.proofs.write.write_parts.Goals as goal

pub put_order-requires-clause-used : goal.put_order-requires-clause-used
put_order-requires-clause-used c =
    let o : IsInOrder c.args.numbers.now c.deref.result.now = subst (λ (z : List (ℕ × ℕ)). IsInOrder c.args.numbers.now z) (sym c.deref.ensures.value) c.in_ok-order.ensures in
    are_used c.args.numbers.now (length c.args.decls.now) c.deref.result.now c.requires.numbers o.used

pub returns : goal.returns
returns c =
    let o : IsInOrder c.args.numbers.now c.deref.result.now = subst (λ (z : List (ℕ × ℕ)). IsInOrder c.args.numbers.now z) (sym c.deref.ensures.value) c.in_ok-order.ensures in
    written c.args.decls.now c.args.numbers.now c.args.columns.now c.deref.result.now c.new-out.result.items c.put_order.new.out.items c.push.new.self.items o c.new-out.ensures.items c.in_ok-put_order.ensures c.in_ok-push.ensures.items
