use Rattle.std.proofs.Common.{◌≡◌, ◌+◌, ◌<◌, ◌∙◌, length, get_or, subst, sym, ap, arith}
use Rattle.list_arena.specs.inside.Rows.{begin_of}
use Rattle.list_arena.specs.inside.Lists.{IsItemRow, item_ends, item_held}
use Rattle.list_arena.proofs.ListLaws.{item_at, item_inside, lists_count}
use Rattle.list_arena.proofs.lists.Lists.item.Goals as goal

pub begin-requires : goal.begin-requires
begin-requires c = rw c.deref.ensures.value (omega (arith, lists_count c.self.inside.long c.self.inside.rows.items c.self.inside.entries.items c.self.inside.items.items c.args.self.now c.self.view_is))

pub overflow_add-begin : goal.overflow_add-begin
overflow_add-begin c =
    let inside : begin_of 0 (item_ends c.self.inside.rows.items) c.args.number + c.args.index < length c.self.inside.items.items = item_inside c.self.inside.long c.self.inside.rows.items c.self.inside.entries.items c.self.inside.items.items c.args.self.now c.args.number c.self.invariant c.self.view_is c.requires.number c.args.index c.requires.index in
    let first : c.begin.result.1 ≡ begin_of 0 (item_ends c.self.inside.rows.items) c.args.number = rw c.deref.ensures.value at c.begin.ensures.item in
    record { fits = omega (arith, c.self.inside.items.small) }

pub index-requires : goal.index-requires
index-requires c =
    let inside : begin_of 0 (item_ends c.self.inside.rows.items) c.args.number + c.args.index < length c.self.inside.items.items = item_inside c.self.inside.long c.self.inside.rows.items c.self.inside.entries.items c.self.inside.items.items c.args.self.now c.args.number c.self.invariant c.self.view_is c.requires.number c.args.index c.requires.index in
    let first : c.begin.result.1 ≡ begin_of 0 (item_ends c.self.inside.rows.items) c.args.number = rw c.deref.ensures.value at c.begin.ensures.item in
    omega arith

pub item_of-requires : goal.item_of-requires
item_of-requires c =
    let inside : begin_of 0 (item_ends c.self.inside.rows.items) c.args.number + c.args.index < length c.self.inside.items.items = item_inside c.self.inside.long c.self.inside.rows.items c.self.inside.entries.items c.self.inside.items.items c.args.self.now c.args.number c.self.invariant c.self.view_is c.requires.number c.args.index c.requires.index in
    let first : c.begin.result.1 ≡ begin_of 0 (item_ends c.self.inside.rows.items) c.args.number = rw c.deref.ensures.value at c.begin.ensures.item in
    subst (IsItemRow c.self.inside.long) (sym c.index.ensures) (c.self.invariant.items_well (c.begin.result.1 + c.args.index) c.index.result.now (omega arith))

pub returns : goal.returns
returns c = λ d other.
    let first : c.begin.result.1 ≡ begin_of 0 (item_ends c.self.inside.rows.items) c.args.number = rw c.deref.ensures.value at c.begin.ensures.item in
    let here = item_at c.self.inside.long c.self.inside.rows.items c.self.inside.entries.items c.self.inside.items.items c.args.self.now c.args.number c.self.invariant c.self.view_is c.requires.number d c.args.index (c.requires.index d) other c.index.result.now in
    c.item_of.ensures ∙ ap (λ r. item_held c.self.inside.long r) (c.index.ensures ∙ ap (λ n. get_or c.self.inside.items.items (n + c.args.index) c.index.result.now) first) ∙ sym here
