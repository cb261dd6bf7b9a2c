use Rattle.std.proofs.Common.{◌≡◌, ◌≤◌, ◌<◌, ◌+◌, ◌∙◌, ℕ, List, length, true≢false, refl, sym, ap, subst, arith}
use Rattle.form_codec.specs.declared.value.Value.{Value}
use Rattle.form_codec.specs.Values.{meant_in}
use Rattle.abbrev_tables.specs.Listings.{spec_at}
use Rattle.entry_arena.specs.Arena.{Arena, entry_at, value_at}
use Rattle.entry_arena.specs.Trees.{declared_at}
use Rattle.entry_read.specs.Units.{declarations_of}
use Rattle.value_links.specs.Reading.{Linkable, unit_at}
use Rattle.value_links.specs.Links.{held_at}
use Rattle.value_links.specs.Parts.{HoldsParts}
use Rattle.value_links.specs.inside.Namings.{AreJoined, ValueNames, ColumnNames, IsColumnNaming}
use Rattle.value_links.proofs.TabledUnits.{entry_declared, entry_counted, entry_inside}
use Rattle.value_links.proofs.NamingLists.{joined_none, below_next}
use Rattle.value_links.proofs.NamingPlaces.{cannot_name}
use Rattle.value_links.proofs.NamingValues.{columns_counted, column_joined}
use Rattle.value_links.proofs.namings.push_entry.Goals as goal

pub column_name-name-requires-clause-number : goal.column_name-name-requires-clause-number
column_name-name-requires-clause-number c =
    let unit = held_at c.args.parts.now.units.units.items c.args.unit in
    let forest = c.forest-forest.ensures ∙ ap (λ z. z.forest) c.unit_of.ensures in
    entry_declared unit c.table_of-table.result.now c.table_of-table.ensures.unit c.forest-forest.result.now forest c.args.id c.requires.id c.entry-entry.result c.entry-entry.ensures

pub column_name-name-requires-clause-column : goal.column_name-name-requires-clause-column
column_name-name-requires-clause-column c =
    let unit = held_at c.args.parts.now.units.units.items c.args.unit in
    let forest = c.forest-forest.ensures ∙ ap (λ z. z.forest) c.unit_of.ensures in
    subst (λ (z : ℕ). c.loop-column.column < z) (entry_counted unit c.table_of-table.result.now c.table_of-table.ensures.unit c.forest-forest.result.now forest c.args.id c.requires.id c.entry-entry.result c.entry-entry.ensures) c.loop-column-test.true

pub overflow_add-entry : goal.overflow_add-entry
overflow_add-entry c =
    let unit = held_at c.args.parts.now.units.units.items c.args.unit in
    let forest = c.forest-forest.ensures ∙ ap (λ z. z.forest) c.unit_of.ensures in
    let entry = c.entry-entry.result in
    let inside : entry.first + entry.count ≤ length unit.forest.values = entry_inside unit c.table_of-table.result.now c.table_of-table.ensures.unit c.forest-forest.result.now forest c.args.id c.requires.id entry c.entry-entry.ensures in
    let below : c.loop-column.column < entry.count = c.loop-column-test.true in
    let count : c.value_count-count.result ≡ length unit.forest.values = c.value_count-count.ensures ∙ ap (λ (z : Arena). length z.values) forest in
    record { fits = omega (arith, below, inside, count, c.value_count-count.type_inv) }

pub value-value-requires : goal.value-value-requires
value-value-requires c =
    let unit = held_at c.args.parts.now.units.units.items c.args.unit in
    let forest = c.forest-forest.ensures ∙ ap (λ z. z.forest) c.unit_of.ensures in
    let entry = c.entry-entry.result in
    let inside : entry.first + entry.count ≤ length unit.forest.values = entry_inside unit c.table_of-table.result.now c.table_of-table.ensures.unit c.forest-forest.result.now forest c.args.id c.requires.id entry c.entry-entry.ensures in
    let below : c.loop-column.column < entry.count = c.loop-column-test.true in
    let there : entry.first + c.loop-column.column < length unit.forest.values = omega (arith, below, inside) in
    subst (λ (z : Arena). entry.first + c.loop-column.column < length z.values) (sym forest) there

-- a value that can name no list adds nothing, whatever the name of its column
pub loop-column-preserved-then-not-can_name : goal.loop-column-preserved-then-not-can_name
loop-column-preserved-then-not-can_name c =
    let unit = held_at c.args.parts.now.units.units.items c.args.unit in
    let forest = c.forest-forest.ensures ∙ ap (λ z. z.forest) c.unit_of.ensures in
    let entry = c.entry-entry.ensures ∙ ap (λ z. entry_at z.entries c.args.id) forest in
    let name : ℕ = (spec_at (declared_at (declarations_of c.table_of-table.result.now) c.entry-entry.result.decl).columns c.loop-column.column).name in
    let value : Value = c.value-value.result in
    let read : value ≡ value_at (held_at c.args.parts.now.units.units.items c.args.unit).forest.values (c.entry-entry.result.first + c.loop-column.column) = c.value-value.ensures ∙ ap (λ z. value_at z.values (c.entry-entry.result.first + c.loop-column.column)) forest in (
      λ (file : List ℕ) (r : Linkable) (holds : HoldsParts file r c.args.parts.now).
          below_next (λ k y. ColumnNames r c.args.kind c.args.unit c.args.id k y.0 × (y.1 ≡ c.args.unit)) c.args.namings.now.items c.loop-column.namings.items c.loop-column.namings.items c.loop-column.column (c.loop-column.invariant.0 file r holds)
          (column_joined file r c.args.parts.now holds c.args.unit c.requires.unit c.args.id c.table_of-table.result.now c.table_of-table.ensures.table c.entry-entry.result entry c.args.kind c.loop-column.namings.items c.loop-column.namings.items c.loop-column.column name value refl read
          (joined_none c.loop-column.namings.items (λ (y : ℕ × ℕ). ValueNames r c.args.kind c.args.unit c.args.id name (meant_in (unit_at r c.args.unit).forest.section value) y.0 × (y.1 ≡ c.args.unit))
          (λ y (is, _). cannot_name r c.args.kind c.args.unit c.args.id name (unit_at r c.args.unit).forest.section value (λ bytes can. absurd (true≢false (sym ((c.if-not-can_name.ensures bytes).1 can)))) y.0 is))),
      c.loop-column.invariant.1,
    )

pub loop-column-preserved : goal.loop-column-preserved
loop-column-preserved c =
    let unit = held_at c.args.parts.now.units.units.items c.args.unit in
    let forest = c.forest-forest.ensures ∙ ap (λ z. z.forest) c.unit_of.ensures in
    let entry = c.entry-entry.ensures ∙ ap (λ z. entry_at z.entries c.args.id) forest in
    let read : c.value-value.result ≡ value_at (held_at c.args.parts.now.units.units.items c.args.unit).forest.values (c.entry-entry.result.first + c.loop-column.column) = c.value-value.ensures ∙ ap (λ z. value_at z.values (c.entry-entry.result.first + c.loop-column.column)) forest in (
      λ (file : List ℕ) (r : Linkable) (holds : HoldsParts file r c.args.parts.now).
          below_next (λ k y. ColumnNames r c.args.kind c.args.unit c.args.id k y.0 × (y.1 ≡ c.args.unit)) c.args.namings.now.items c.loop-column.namings.items c.push_value.new.namings.items c.loop-column.column (c.loop-column.invariant.0 file r holds)
          (column_joined file r c.args.parts.now holds c.args.unit c.requires.unit c.args.id c.table_of-table.result.now c.table_of-table.ensures.table c.entry-entry.result entry c.args.kind c.loop-column.namings.items c.push_value.new.namings.items c.loop-column.column c.column_name-name.result c.value-value.result c.column_name-name.ensures read (c.in_ok-push_value.ensures.joined c.args.id file r holds)),
      λ known. c.in_ok-push_value.ensures.known (c.loop-column.invariant.1 known),
    )

pub returns-clause-joined : goal.returns-clause-joined
returns-clause-joined c = λ (file : List ℕ) (r : Linkable) (holds : HoldsParts file r c.args.parts.now).
    let forest = c.forest-forest.ensures ∙ ap (λ z. z.forest) c.unit_of.ensures in
    let entry = c.entry-entry.ensures ∙ ap (λ z. entry_at z.entries c.args.id) forest in
    let all : c.loop-column.column ≡ c.entry-entry.result.count = omega arith in
    subst (λ (z : ℕ). AreJoined c.args.namings.now.items c.loop-column.namings.items (IsColumnNaming r c.args.kind c.args.unit c.args.id z)) (all ∙ columns_counted file r c.args.parts.now holds c.args.unit c.requires.unit c.args.id c.table_of-table.result.now c.table_of-table.ensures.table c.entry-entry.result entry) (c.loop-column.invariant.0 file r holds)
