use Rattle.std.proofs.Common.{◌≡◌, ◌∙◌, ℕ, List, length, ap}
use Rattle.entry_arena.specs.declared.entry.Entry.{Entry}
use Rattle.rewriter.proofs.ColumnUnits.{inside_unit, declared_read, columns_read, row_read, first_read}
use Rattle.rewriter.proofs.ColumnsSeen.{entry_sees}
use Rattle.rewriter.proofs.inside_columns.see_unit.Goals as goal

pub decl-decl-requires : goal.decl-decl-requires
decl-decl-requires c =
    let entries_are : c.entries-entry-items.result.now ≡ c.args.unit.now.forest.entries = c.entries-entry-items.ensures.entries ∙ ap (λ f. f.entries) c.forest.ensures in
    declared_read c.args.table.now c.args.unit.now c.requires.table c.requires.unit c.entries-entry-items.result.now entries_are c.loop-entry.entry-index c.loop-entry-test.true

pub see_row-requires : goal.see_row-requires
see_row-requires c =
    let entries_are : c.entries-entry-items.result.now ≡ c.args.unit.now.forest.entries = c.entries-entry-items.ensures.entries ∙ ap (λ f. f.entries) c.forest.ensures in
    let values_are = ap (λ f. f.values) c.forest-in-loop-entry.ensures in
    let row_is = c.deref.ensures.value ∙ c.in_ok-read_values.ensures.values in
    columns_read c.args.table.now c.args.unit.now c.requires.table c.requires.unit c.entries-entry-items.result.now entries_are c.loop-entry.entry-index c.loop-entry-test.true c.forest-in-loop-entry.result.now.values values_are c.deref.result.now row_is c.decl-decl.result c.decl-decl.ensures (length c.loop-entry.seen.items) (c.loop-entry.invariant.count ∙ c.requires.wide)

pub loop-entry-preserved : goal.loop-entry-preserved
loop-entry-preserved c =
    let table = c.args.table.now in
    let unit = c.args.unit.now in
    let id : ℕ = c.loop-entry.entry-index in
    let entries : List Entry = c.entries-entry-items.result.now in
    let entries_are : entries ≡ unit.forest.entries = c.entries-entry-items.ensures.entries ∙ ap (λ f. f.entries) c.forest.ensures in
    let values_are = ap (λ f. f.values) c.forest-in-loop-entry.ensures in
    let inside = inside_unit table unit c.requires.table c.requires.unit entries entries_are id c.loop-entry-test.true in
    let row_is = row_read table unit c.requires.table c.requires.unit entries entries_are id c.loop-entry-test.true c.forest-in-loop-entry.result.now.values values_are c.deref.result.now (c.deref.ensures.value ∙ c.in_ok-read_values.ensures.values) in
    let first_is = first_read table unit c.requires.table c.requires.unit entries entries_are id c.loop-entry-test.true c.decl-decl.result c.decl-decl.ensures in
    entry_sees table unit c.requires.table c.requires.unit id inside c.args.seen.now.items c.loop-entry.seen.items c.see_row.new.seen.items c.loop-entry.invariant c.see_row.ensures.count _ row_is c.decl-decl.result.first first_is c.head-head.result c.head-head.ensures c.see_row.ensures.seen
