use Rattle.std.proofs.Common.{sym, arith}
use Rattle.list_arena.proofs.ListLaws.{frozen_counted, live_counted, lists_count, row_at}
use Rattle.list_arena.proofs.lists.Lists.item_count.Goals as goal

pub index-row-requires : goal.index-row-requires
index-row-requires c = omega (arith, lists_count c.self.inside.long c.self.inside.rows.items c.self.inside.entries.items c.self.inside.items.items c.args.self.now c.self.view_is)

pub begin-requires : goal.begin-requires
begin-requires c = rw c.deref.ensures.value (omega (arith, lists_count c.self.inside.long c.self.inside.rows.items c.self.inside.entries.items c.self.inside.items.items c.args.self.now c.self.view_is))

pub overflow_sub-result : goal.overflow_sub-result
overflow_sub-result c =
    let here = row_at c.self.inside.long c.self.inside.rows.items c.self.inside.entries.items c.self.inside.items.items c.args.self.now c.args.number c.index-row.result.now c.self.invariant c.self.view_is c.requires c.index-row.ensures in
    rw (c.begin.ensures.item, c.deref.ensures.value) here.items

pub returns-then-row : goal.returns-then-row
returns-then-row c = λ d. sym (frozen_counted c.self.inside.long c.self.inside.rows.items c.self.inside.entries.items c.self.inside.items.items c.args.self.now c.args.number c.index-row.result.now c.self.view_is c.requires c.index-row.ensures c.if-row.true d)

pub returns : goal.returns
returns c = λ d.
    rw (c.begin.ensures.item, c.deref.ensures.value) (sym (live_counted c.self.inside.long c.self.inside.rows.items c.self.inside.entries.items c.self.inside.items.items c.args.self.now c.args.number c.index-row.result.now c.self.invariant c.self.view_is c.requires c.index-row.ensures c.if-row.false d))
