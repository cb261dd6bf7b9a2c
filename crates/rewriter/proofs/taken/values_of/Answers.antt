use Rattle.std.proofs.Common.{◌≡◌, ◌∙◌, ℕ, List, ap}
use Rattle.form_codec.specs.declared.value.Value.{Value}
use Rattle.entry_arena.specs.declared.entry.Entry.{Entry}
use Rattle.rewriter.proofs.ColumnUnits.{declared_read}
use Rattle.rewriter.proofs.TakenValues.{columns_within, olds_count, news_count, row_pushed, rows_done}
use Rattle.rewriter.proofs.taken.values_of.Goals as goal

pub decl-decl-requires : goal.decl-decl-requires
decl-decl-requires c =
    let entries_are = c.entries-entry-items.ensures.entries ∙ ap (λ f. f.entries) c.forest-2.ensures in
    declared_read c.args.table.now c.args.unit.now c.requires.table c.requires.unit c.entries-entry-items.result.now entries_are c.loop-entry.entry-index c.loop-entry-test.true

pub slice_bounds-columns-end : goal.slice_bounds-columns-end
slice_bounds-columns-end c =
    let entries_are = c.entries-entry-items.ensures.entries ∙ ap (λ f. f.entries) c.forest-2.ensures in
    columns_within c.args.unit.now c.args.table.now c.args.news.now c.requires.table c.requires.unit c.requires.renewed c.entries-entry-items.result.now entries_are c.loop-entry.entry-index c.loop-entry-test.true c.decl-decl.result c.decl-decl.ensures

pub columns-requires : goal.columns-requires
columns-requires c =
    let entries_are = c.entries-entry-items.ensures.entries ∙ ap (λ f. f.entries) c.forest-2.ensures in
    declared_read c.args.table.now c.args.unit.now c.requires.table c.requires.unit c.entries-entry-items.result.now entries_are c.loop-entry.entry-index c.loop-entry-test.true

pub push_row-requires : goal.push_row-requires
push_row-requires c =
    let unit = c.args.unit.now in
    let table = c.args.table.now in
    let news = c.args.news.now in
    let id : ℕ = c.loop-entry.entry-index in
    let entries : List Entry = c.entries-entry-items.result.now in
    let entries_are : entries ≡ unit.forest.entries = c.entries-entry-items.ensures.entries ∙ ap (λ f. f.entries) c.forest-2.ensures in
    let values : List Value = c.forest-in-loop-entry.result.now.values in
    let values_are = ap (λ f. f.values) c.forest-in-loop-entry.ensures in
    let row_is = c.deref.ensures.value ∙ c.in_ok-read_values.ensures.values in
    record {
      columns = (olds_count unit table news c.requires.table c.requires.unit c.requires.renewed entries entries_are id c.loop-entry-test.true c.decl-decl.result c.decl-decl.ensures c.columns.result.now c.columns.ensures values values_are c.deref.result.now row_is, news_count unit table news c.requires.table c.requires.unit c.requires.renewed entries entries_are id c.loop-entry-test.true c.decl-decl.result c.decl-decl.ensures c.columns.result.now c.columns.ensures values values_are c.deref.result.now row_is);
    }

pub loop-entry-preserved : goal.loop-entry-preserved
loop-entry-preserved c =
    let unit = c.args.unit.now in
    let id : ℕ = c.loop-entry.entry-index in
    let entries : List Entry = c.entries-entry-items.result.now in
    let entries_are : entries ≡ unit.forest.entries = c.entries-entry-items.ensures.entries ∙ ap (λ f. f.entries) c.forest-2.ensures in
    let values : List Value = c.forest-in-loop-entry.result.now.values in
    let values_are = ap (λ f. f.values) c.forest-in-loop-entry.ensures in
    let row_is = c.deref.ensures.value ∙ c.in_ok-read_values.ensures.values in
    let at_is : c.head-at.result.at ≡ unit.head.at = ap (λ h. h.at) c.head-at.ensures in
    row_pushed unit c.args.table.now c.args.news.now c.requires.table c.requires.unit c.requires.renewed entries entries_are id c.loop-entry-test.true c.decl-decl.result c.decl-decl.ensures c.columns.result.now c.columns.ensures values values_are c.deref.result.now row_is c.head-at.result.at c.loop-entry.values.items c.push_row.new.values.items at_is c.loop-entry.invariant c.in_ok-push_row.ensures

pub returns : goal.returns
returns c =
    let entries_are = c.entries-entry-items.ensures.entries ∙ ap (λ f. f.entries) c.forest-2.ensures in
    rows_done c.args.unit.now c.args.table.now c.args.news.now c.entries-entry-items.result.now c.loop-entry.entry-index c.loop-entry.values.items entries_are c.loop-entry-test.false c.loop-entry.invariant
