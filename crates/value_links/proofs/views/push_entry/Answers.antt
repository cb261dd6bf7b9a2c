use Rattle.std.proofs.Common.{◌≡◌, ◌<◌, ◌∙◌, ℕ, List, true≢false, refl, sym, ap, subst, arith}
use Rattle.entry_arena.specs.Arena.{entry_at}
use Rattle.entry_arena.specs.Trees.{declared_at}
use Rattle.entry_read.specs.Units.{declarations_of}
use Rattle.entry_read.proofs.Declarations.{count_same, columns_are}
use Rattle.value_links.specs.Reading.{Linkable}
use Rattle.value_links.specs.Links.{held_at}
use Rattle.value_links.specs.Parts.{HoldsParts}
use Rattle.value_links.specs.inside.Namings.{AreJoined}
use Rattle.value_links.specs.inside.Views.{IsColumnViewing, IsEntryViewing}
use Rattle.value_links.proofs.TabledUnits.{entry_declared}
use Rattle.value_links.proofs.NamingLists.{below_next}
use Rattle.value_links.proofs.Viewings.{columns_same, column_viewing, entry_none}
use Rattle.value_links.proofs.views.push_entry.Goals as goal

pub columns-requires : goal.columns-requires
columns-requires c =
    let unit = held_at c.args.parts.now.units.units.items c.args.unit in
    let forest = c.forest.ensures ∙ ap (λ z. z.forest) c.unit_of-own.ensures in
    let table = c.table_of-table.result.now in
    subst (λ (z : ℕ). c.entry-entry.result.decl < z) (count_same table)
    (entry_declared unit table c.table_of-table.ensures.unit c.forest.result.now forest c.args.id c.requires.id c.entry-entry.result c.entry-entry.ensures)

pub returns-then-not-have_views : goal.returns-then-not-have_views
returns-then-not-have_views c = λ (file : List ℕ) (r : Linkable) (holds : HoldsParts file r c.args.parts.now).
    let unit = held_at c.args.parts.now.units.units.items c.args.unit in
    let forest = c.forest.ensures ∙ ap (λ z. z.forest) c.unit_of-own.ensures in
    let table = c.table_of-table.result.now in
    let entry : c.entry-entry.result ≡ entry_at unit.forest.entries c.args.id = c.entry-entry.ensures ∙ ap (λ z. entry_at z.entries c.args.id) forest in
    let below = entry_declared unit table c.table_of-table.ensures.unit c.forest.result.now forest c.args.id c.requires.id c.entry-entry.result c.entry-entry.ensures in
    let columns : c.columns.result.now ≡ (declared_at (declarations_of table) (entry_at unit.forest.entries c.args.id).decl).columns = c.columns.ensures ∙ columns_are table c.entry-entry.result.decl below ∙ ap (λ z. (declared_at (declarations_of table) z.decl).columns) entry in
    entry_none file r c.args.parts.now holds c.args.unit c.requires.unit unit refl table c.table_of-table.ensures.table c.args.id c.requires.id c.columns.result.now columns (λ has. absurd (true≢false (sym (c.if-not-have_views.ensures.1 has)))) c.args.viewings.now.items

pub loop-column-preserved : goal.loop-column-preserved
loop-column-preserved c = λ (file : List ℕ) (r : Linkable) (holds : HoldsParts file r c.args.parts.now).
    let (name, held) = c.attribute_of-name.result in
    below_next (λ k y. IsColumnViewing r c.args.unit c.args.id k y) c.args.viewings.now.items c.loop-column.viewings.items c.push_value.new.viewings.items c.loop-column.column (c.loop-column.invariant file r holds)
    (column_viewing file r c.args.parts.now holds c.args.unit c.requires.unit c.unit_of-own.result.now c.unit_of-own.ensures c.table_of-table.result.now c.table_of-table.ensures.table c.args.id c.loop-column.column name held c.loop-column.viewings.items c.push_value.new.viewings.items c.attribute_of-name.ensures.name c.attribute_of-name.ensures.value (c.in_ok-push_value.ensures file r holds))

pub returns : goal.returns
returns c = λ (file : List ℕ) (r : Linkable) (holds : HoldsParts file r c.args.parts.now).
    let count : c.entry-entry.result.count ≡ (entry_at c.unit_of-own.result.now.forest.entries c.args.id).count = ap (λ z. z.count) (c.entry-entry.ensures ∙ ap (λ z. entry_at z.entries c.args.id) c.forest.ensures) in
    let all : c.loop-column.column ≡ c.entry-entry.result.count = omega arith in
    subst (λ (z : ℕ). AreJoined c.args.viewings.now.items c.loop-column.viewings.items (IsEntryViewing r c.args.unit c.args.id z)) (all ∙ count ∙ columns_same file r c.args.parts.now holds c.args.unit c.requires.unit c.unit_of-own.result.now c.unit_of-own.ensures c.table_of-table.result.now c.table_of-table.ensures.table c.args.id) (c.loop-column.invariant file r holds)
