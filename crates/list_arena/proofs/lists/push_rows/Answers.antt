use Rattle.std.proofs.Common.{◌≡◌, ◌++◌, ◌∙◌, ℕ, List, length, ap, subst, arith}
use Rattle.list_model.specs.declared.entry.RawEntry.{RawEntry}
use Rattle.list_arena.specs.inside.Words.{GrowsTo}
use Rattle.list_arena.specs.inside.Lists.{IsMeant, IsRowOf, entries_held, items_held}
use Rattle.list_arena.proofs.ListLaws.{entries_same, entries_well, items_same, items_well, list_pushed}
use Rattle.list_arena.proofs.WordLaws.{grows_on}
use Rattle.list_arena.proofs.lists.push_rows.Goals as goal

pub returns-clause-pushed : goal.returns-clause-pushed
returns-clause-pushed c =
    let first = c.args.long.now in
    let second = c.push_entries.new.long in
    let third = c.push_items.new.long in
    let last = c.list_row.new.long in
    let entries = c.push_entries.new.rows.items in
    let items = c.push_items.new.rows.items in
    let live = c.live_items.result.now in
    let to_second = c.in_ok-push_entries.ensures.grown in
    let to_third = c.in_ok-push_items.ensures.grown in
    let to_last = c.in_ok-row.ensures.grown in
    let from_second : GrowsTo second last = grows_on second third last to_third to_last in
    let grown : GrowsTo first last = grows_on first second last to_second from_second in
    let raw_held : entries_held last entries ≡ entries_held first c.args.entries.now.items ++ c.args.list.now.raw =
    entries_same second last from_second entries c.in_ok-push_entries.ensures.well ∙ c.in_ok-push_entries.ensures.held
    ∙ ap (λ (raw : List RawEntry). entries_held first c.args.entries.now.items ++ raw) (c.deref.ensures.value ∙ c.entries.ensures) in
    let live_held : items_held last items ≡ items_held first c.args.items.now.items ++ live =
    items_same third last to_last items c.in_ok-push_items.ensures.well ∙ c.in_ok-push_items.ensures.held
    ∙ ap (λ is. is ++ live) (items_same first second to_second c.args.items.now.items c.requires.items_well) in
    let meant : IsMeant c.args.list.now.meaning live = subst (λ m. IsMeant m live) c.meaning.ensures c.live_items.ensures in
    let row_is : IsRowOf last c.args.list.now (length entries) (length items) c.in_ok-row.row =
    let entry_count : c.len.result ≡ length entries = omega (arith, c.len.ensures) in
    let item_count : c.len-2.result ≡ length items = omega (arith, c.len-2.ensures) in
    subst (λ (n : ℕ). IsRowOf last c.args.list.now (length entries) n c.in_ok-row.row) item_count
    (subst (λ (n : ℕ). IsRowOf last c.args.list.now n c.len-2.result c.in_ok-row.row) entry_count c.in_ok-row.ensures.row) in
    rw c.in_ok-push.ensures.items (list_pushed first last c.args.rows.now.items c.args.entries.now.items entries c.args.items.now.items items c.in_ok-row.row c.args.list.now live c.requires grown
    (entries_well second last from_second entries c.in_ok-push_entries.ensures.well) raw_held
    (items_well third last to_last items c.in_ok-push_items.ensures.well) live_held meant row_is)
