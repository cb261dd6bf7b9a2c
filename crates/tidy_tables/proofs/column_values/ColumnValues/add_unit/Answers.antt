use Rattle.std.proofs.Common.{◌≡◌, ◌∙◌, ◌^◌, ◌<◌, ℕ, List, length, ap, subst}
use Rattle.spelled.specs.Spelled.{AreBytes}
use Rattle.entry_arena.specs.declared.entry.Entry.{Entry}
use Rattle.tidy_tables.proofs.ColumnEntries.{inside_unit, declared_read, values_read, columns_read, names_read, width_read, row_read, first_read, entry_room, entry_added}
use Rattle.tidy_tables.proofs.column_values.ColumnValues.add_unit.Goals as goal

pub decl-decl-requires : goal.decl-decl-requires
decl-decl-requires c =
    let entries_are : c.entries-entry-items.result.now ≡ c.args.unit.now.forest.entries = c.entries-entry-items.ensures.entries ∙ ap (λ f. f.entries) c.forest-2.ensures in
    declared_read c.args.table.now c.args.unit.now c.requires.table c.requires.unit c.entries-entry-items.result.now entries_are c.loop-entry.entry-index c.loop-entry-test.true

pub columns-columns-requires : goal.columns-columns-requires
columns-columns-requires c =
    let entries_are : c.entries-entry-items.result.now ≡ c.args.unit.now.forest.entries = c.entries-entry-items.ensures.entries ∙ ap (λ f. f.entries) c.forest-2.ensures in
    declared_read c.args.table.now c.args.unit.now c.requires.table c.requires.unit c.entries-entry-items.result.now entries_are c.loop-entry.entry-index c.loop-entry-test.true

pub read_values-requires : goal.read_values-requires
read_values-requires c =
    let entries_are : c.entries-entry-items.result.now ≡ c.args.unit.now.forest.entries = c.entries-entry-items.ensures.entries ∙ ap (λ f. f.entries) c.forest-2.ensures in
    values_read c.args.table.now c.args.unit.now c.requires.table c.requires.unit c.entries-entry-items.result.now entries_are c.loop-entry.entry-index c.loop-entry-test.true c.forest-in-loop-entry.result.now c.forest-in-loop-entry.ensures

pub add_row-requires-clause-tallies : goal.add_row-requires-clause-tallies
add_row-requires-clause-tallies c =
    let entries_are : c.entries-entry-items.result.now ≡ c.args.unit.now.forest.entries = c.entries-entry-items.ensures.entries ∙ ap (λ f. f.entries) c.forest-2.ensures in
    let row_is = c.deref.ensures.value ∙ c.in_ok-read_values.ensures.values in
    columns_read c.args.table.now c.args.unit.now c.requires.table c.requires.unit c.entries-entry-items.result.now entries_are c.loop-entry.entry-index c.loop-entry-test.true c.forest-in-loop-entry.result.now c.forest-in-loop-entry.ensures c.deref.result.now row_is c.decl-decl.result c.decl-decl.ensures (length c.loop-entry.self.tallies) (c.loop-entry.invariant.tallies ∙ c.requires.wide.tallies)

pub add_row-requires-clause-inside : goal.add_row-requires-clause-inside
add_row-requires-clause-inside c =
    let entries_are : c.entries-entry-items.result.now ≡ c.args.unit.now.forest.entries = c.entries-entry-items.ensures.entries ∙ ap (λ f. f.entries) c.forest-2.ensures in
    let row_is = c.deref.ensures.value ∙ c.in_ok-read_values.ensures.values in
    columns_read c.args.table.now c.args.unit.now c.requires.table c.requires.unit c.entries-entry-items.result.now entries_are c.loop-entry.entry-index c.loop-entry-test.true c.forest-in-loop-entry.result.now c.forest-in-loop-entry.ensures c.deref.result.now row_is c.decl-decl.result c.decl-decl.ensures (length c.loop-entry.self.inside.items) (c.loop-entry.invariant.inside ∙ c.requires.wide.inside)

pub add_row-requires-clause-width : goal.add_row-requires-clause-width
add_row-requires-clause-width c =
    let table = c.args.table.now in
    let unit = c.args.unit.now in
    let id : ℕ = c.loop-entry.entry-index in
    let entries : List Entry = c.entries-entry-items.result.now in
    let entries_are : entries ≡ unit.forest.entries = c.entries-entry-items.ensures.entries ∙ ap (λ f. f.entries) c.forest-2.ensures in
    let row_is = row_read table unit c.requires.table c.requires.unit entries entries_are id c.loop-entry-test.true c.forest-in-loop-entry.result.now c.forest-in-loop-entry.ensures c.deref.result.now (c.deref.ensures.value ∙ c.in_ok-read_values.ensures.values) in
    width_read table unit c.requires.table c.requires.unit entries entries_are id c.loop-entry-test.true c.columns-columns.result.now c.columns-columns.ensures c.deref.result.now row_is

pub add_row-requires-clause-room : goal.add_row-requires-clause-room
add_row-requires-clause-room c =
    let entries_are : c.entries-entry-items.result.now ≡ c.args.unit.now.forest.entries = c.entries-entry-items.ensures.entries ∙ ap (λ f. f.entries) c.forest-2.ensures in
    let inside = inside_unit c.args.table.now c.args.unit.now c.requires.table c.requires.unit c.entries-entry-items.result.now entries_are c.loop-entry.entry-index c.loop-entry-test.true in
    entry_room c.args.table.now c.args.unit.now c.requires.table c.requires.unit c.loop-entry.entry-index inside c.args.self.now c.loop-entry.self c.loop-entry.invariant c.requires.room

pub loop-entry-preserved : goal.loop-entry-preserved
loop-entry-preserved c =
    let table = c.args.table.now in
    let unit = c.args.unit.now in
    let id : ℕ = c.loop-entry.entry-index in
    let entries : List Entry = c.entries-entry-items.result.now in
    let entries_are : entries ≡ unit.forest.entries = c.entries-entry-items.ensures.entries ∙ ap (λ f. f.entries) c.forest-2.ensures in
    let section_is : c.section.result.now ≡ unit.forest.section = c.section.ensures ∙ ap (λ f. f.section) c.forest.ensures in
    let small : AreBytes unit.forest.section = subst (λ (z : List ℕ). AreBytes z) section_is c.bytes_are_small.ensures.small in
    let few : length unit.forest.section < 2 ^ 63 = subst (λ (z : List ℕ). length z < 2 ^ 63) section_is c.bytes_are_small.ensures.few in
    let inside = inside_unit table unit c.requires.table c.requires.unit entries entries_are id c.loop-entry-test.true in
    let row_is = row_read table unit c.requires.table c.requires.unit entries entries_are id c.loop-entry-test.true c.forest-in-loop-entry.result.now c.forest-in-loop-entry.ensures c.deref.result.now (c.deref.ensures.value ∙ c.in_ok-read_values.ensures.values) in
    let first_is = first_read table unit c.requires.table c.requires.unit entries entries_are id c.loop-entry-test.true c.decl-decl.result c.decl-decl.ensures in
    let named = names_read table unit c.requires.table c.requires.unit entries entries_are id c.loop-entry-test.true c.columns-columns.result.now c.columns-columns.ensures c.decl-decl.result c.decl-decl.ensures in
    entry_added table unit c.requires.table c.requires.unit id inside c.args.self.now c.loop-entry.self c.loop-entry.invariant c.add_row.new.self c.in_ok-add_row.ensures.tallies c.in_ok-add_row.ensures.inside c.in_ok-add_row.ensures.few small few _ row_is c.decl-decl.result.first first_is c.head-head.result c.head-head.ensures c.columns-columns.result.now named c.in_ok-add_row.ensures.added
