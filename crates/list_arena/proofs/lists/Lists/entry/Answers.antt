use Rattle.std.proofs.Common.{◌≡◌, ◌+◌, ◌<◌, ◌∙◌, length, get_or, subst, sym, ap, arith}
use Rattle.list_arena.specs.inside.Rows.{begin_of}
use Rattle.list_arena.specs.inside.Lists.{IsEntryRow, entry_ends, entry_held}
use Rattle.list_arena.proofs.ListLaws.{entry_at, entry_inside, lists_count}
use Rattle.list_arena.proofs.lists.Lists.entry.Goals as goal

pub begin-requires : goal.begin-requires
begin-requires c = rw c.deref.ensures.value (omega (arith, lists_count c.self.inside.long c.self.inside.rows.items c.self.inside.entries.items c.self.inside.items.items c.args.self.now c.self.view_is))

pub overflow_add-begin : goal.overflow_add-begin
overflow_add-begin c =
    let inside : begin_of 0 (entry_ends c.self.inside.rows.items) c.args.number + c.args.index < length c.self.inside.entries.items = entry_inside c.self.inside.long c.self.inside.rows.items c.self.inside.entries.items c.self.inside.items.items c.args.self.now c.args.number c.self.invariant c.self.view_is c.requires.number c.args.index c.requires.index in
    let first : c.begin.result.0 ≡ begin_of 0 (entry_ends c.self.inside.rows.items) c.args.number = rw c.deref.ensures.value at c.begin.ensures.entry in
    record { fits = omega (arith, c.self.inside.entries.small) }

pub index-requires : goal.index-requires
index-requires c =
    let inside : begin_of 0 (entry_ends c.self.inside.rows.items) c.args.number + c.args.index < length c.self.inside.entries.items = entry_inside c.self.inside.long c.self.inside.rows.items c.self.inside.entries.items c.self.inside.items.items c.args.self.now c.args.number c.self.invariant c.self.view_is c.requires.number c.args.index c.requires.index in
    let first : c.begin.result.0 ≡ begin_of 0 (entry_ends c.self.inside.rows.items) c.args.number = rw c.deref.ensures.value at c.begin.ensures.entry in
    omega arith

pub entry_of-requires : goal.entry_of-requires
entry_of-requires c =
    let inside : begin_of 0 (entry_ends c.self.inside.rows.items) c.args.number + c.args.index < length c.self.inside.entries.items = entry_inside c.self.inside.long c.self.inside.rows.items c.self.inside.entries.items c.self.inside.items.items c.args.self.now c.args.number c.self.invariant c.self.view_is c.requires.number c.args.index c.requires.index in
    let first : c.begin.result.0 ≡ begin_of 0 (entry_ends c.self.inside.rows.items) c.args.number = rw c.deref.ensures.value at c.begin.ensures.entry in
    subst (IsEntryRow c.self.inside.long) (sym c.index.ensures) (c.self.invariant.entries_well (c.begin.result.0 + c.args.index) c.index.result.now (omega arith))

pub returns : goal.returns
returns c = λ d other.
    let first : c.begin.result.0 ≡ begin_of 0 (entry_ends c.self.inside.rows.items) c.args.number = rw c.deref.ensures.value at c.begin.ensures.entry in
    let here = entry_at c.self.inside.long c.self.inside.rows.items c.self.inside.entries.items c.self.inside.items.items c.args.self.now c.args.number c.self.invariant c.self.view_is c.requires.number d c.args.index (c.requires.index d) other c.index.result.now in
    c.entry_of.ensures ∙ ap (λ r. entry_held c.self.inside.long r) (c.index.ensures ∙ ap (λ n. get_or c.self.inside.entries.items (n + c.args.index) c.index.result.now) first) ∙ sym here
