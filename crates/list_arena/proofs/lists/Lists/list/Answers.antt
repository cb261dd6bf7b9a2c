use Rattle.std.proofs.Common.{◌∙◌, sym, arith}
use Rattle.list_arena.proofs.ListLaws.{list_at, list_read, lists_count, row_at}
use Rattle.list_arena.proofs.lists.Lists.list.Goals as goal

pub index-row-requires : goal.index-row-requires
index-row-requires c = omega (arith, lists_count c.self.inside.long c.self.inside.rows.items c.self.inside.entries.items c.self.inside.items.items c.args.self.now c.self.view_is)

pub begin-entry-requires : goal.begin-entry-requires
begin-entry-requires c = rw c.deref.ensures.value (omega (arith, lists_count c.self.inside.long c.self.inside.rows.items c.self.inside.entries.items c.self.inside.items.items c.args.self.now c.self.view_is))

pub overflow_cast-entries : goal.overflow_cast-entries
overflow_cast-entries c =
    let here = row_at c.self.inside.long c.self.inside.rows.items c.self.inside.entries.items c.self.inside.items.items c.args.self.now c.args.number c.index-row.result.now c.self.invariant c.self.view_is c.requires c.index-row.ensures in
    record { fits = omega (arith, here.all_entries, c.self.inside.entries.small) }

pub overflow_cast-items : goal.overflow_cast-items
overflow_cast-items c =
    let here = row_at c.self.inside.long c.self.inside.rows.items c.self.inside.entries.items c.self.inside.items.items c.args.self.now c.args.number c.index-row.result.now c.self.invariant c.self.view_is c.requires c.index-row.ensures in
    record { fits = omega (arith, here.all_items, c.self.inside.items.small) }

pub number-requires : goal.number-requires
number-requires c =
    let here = row_at c.self.inside.long c.self.inside.rows.items c.self.inside.entries.items c.self.inside.items.items c.args.self.now c.args.number c.index-row.result.now c.self.invariant c.self.view_is c.requires c.index-row.ensures in
    here.word

pub read_entries-requires-clause-order : goal.read_entries-requires-clause-order
read_entries-requires-clause-order c =
    let here = row_at c.self.inside.long c.self.inside.rows.items c.self.inside.entries.items c.self.inside.items.items c.args.self.now c.args.number c.index-row.result.now c.self.invariant c.self.view_is c.requires c.index-row.ensures in
    rw (c.begin-entry.ensures.entry, c.deref.ensures.value) here.entries

pub read_entries-requires-clause-inside : goal.read_entries-requires-clause-inside
read_entries-requires-clause-inside c =
    let here = row_at c.self.inside.long c.self.inside.rows.items c.self.inside.entries.items c.self.inside.items.items c.args.self.now c.args.number c.index-row.result.now c.self.invariant c.self.view_is c.requires c.index-row.ensures in
    rw c.deref-2.ensures.value here.all_entries

pub read_meaning-requires-clause-order : goal.read_meaning-requires-clause-order
read_meaning-requires-clause-order c =
    let here = row_at c.self.inside.long c.self.inside.rows.items c.self.inside.entries.items c.self.inside.items.items c.args.self.now c.args.number c.index-row.result.now c.self.invariant c.self.view_is c.requires c.index-row.ensures in
    rw (c.begin-entry.ensures.item, c.deref.ensures.value) here.items

pub read_meaning-requires-clause-inside : goal.read_meaning-requires-clause-inside
read_meaning-requires-clause-inside c =
    let here = row_at c.self.inside.long c.self.inside.rows.items c.self.inside.entries.items c.self.inside.items.items c.args.self.now c.args.number c.index-row.result.now c.self.invariant c.self.view_is c.requires c.index-row.ensures in
    rw c.deref-3.ensures.value here.all_items

pub returns : goal.returns
returns c = λ d.
    let raw = rw (c.deref-2.ensures.value, c.begin-entry.ensures.entry, c.deref.ensures.value) at c.in_ok-read_entries.ensures in
    let meaning = rw (c.deref-3.ensures.value, c.begin-entry.ensures.item, c.deref.ensures.value) at c.in_ok-read_meaning.ensures in
    c.new.ensures
    ∙ list_read c.self.inside.long c.index-row.result.now _ _ _ _ _ _ c.number.ensures c.owner_of.ensures raw meaning
    ∙ sym (list_at c.self.inside.long c.self.inside.rows.items c.self.inside.entries.items c.self.inside.items.items c.args.self.now c.args.number c.index-row.result.now c.self.view_is c.requires c.index-row.ensures d)
