use Rattle.std.proofs.Common.{◌≡◌, ◌≤◌, ◌<◌, ◌∙◌, true, false, ℕ, List, length, sym, ap, subst, refl, arith}
use Rattle.form_codec.specs.Forms.{Meaning}
use Rattle.form_codec.specs.Values.{meant_in}
use Rattle.entry_arena.specs.declared.entry.Entry.{Entry}
use Rattle.entry_arena.specs.Arena.{Arena, entry_at}
use Rattle.entry_read.specs.Units.{HeadAndForest, declarations_of}
use Rattle.value_links.specs.Reading.{Linkable, unit_at}
use Rattle.value_links.specs.Linked.{is_located}
use Rattle.value_links.specs.Links.{held_at}
use Rattle.value_links.specs.Parts.{HoldsParts}
use Rattle.value_links.specs.inside.Checks.{table_held, IsUnitWithTable, attributes_at}
use Rattle.value_links.proofs.TabledUnits.{some_with_table}
use Rattle.value_links.proofs.RootValues.{attributes_counted, attribute_inside}
use Rattle.value_links.proofs.Passing.{none_further, none_whole}
use Rattle.value_links.proofs.Locating.{attribute_held, no_location, first_location}
use Rattle.value_links.proofs.located.located_place.Goals as goal

pub loop-column-init : goal.loop-column-init
loop-column-init c = refl

-- the entry is the one that is held
entry_there : (unit held : HeadAndForest) (forest : Arena) (id : ℕ) (entry : Entry) → unit ≡ held → forest ≡ unit.forest → entry ≡ entry_at forest.entries id → entry ≡ entry_at held.forest.entries id
entry_there unit held forest id entry e f is = is ∙ ap (λ (z : Arena). entry_at z.entries id) (f ∙ ap (λ (z : HeadAndForest). z.forest) e)

pub returns-then-is_located : goal.returns-then-is_located
returns-then-is_located c = λ (file : List ℕ) (r : Linkable) (holds : HoldsParts file r c.args.parts.now).
    let parts = c.args.parts.now in
    let held = held_at parts.units.units.items c.args.unit in
    let unit = c.unit_of-own.result.now in
    let named = c.attribute_of-name.result in
    let known : c.args.id < length unit.forest.entries = subst (λ (z : HeadAndForest). c.args.id < length z.forest.entries) (sym c.unit_of-own.ensures) c.requires.id in
    let inside : c.loop-column.column < (entry_at unit.forest.entries c.args.id).count = subst (λ (z : Entry). c.loop-column.column < z.count) (entry_there unit unit c.forest.result.now c.args.id c.entry-column-end.result refl c.forest.ensures c.entry-column-end.ensures) c.loop-column-test.true in
    let tabled = subst (λ (z : HeadAndForest). IsUnitWithTable z c.table_of-table.result.now) (sym c.unit_of-own.ensures) c.table_of-table.ensures.unit in
    let at = attribute_held held unit (table_held parts.units c.args.unit) c.table_of-table.result.now c.unit_of-own.ensures c.table_of-table.ensures.table tabled c.args.id c.loop-column.column named.0 named.1 known inside c.attribute_of-name.ensures.name c.attribute_of-name.ensures.value in
    let section = (unit_at r c.args.unit).forest.section in
    let is : is_located (named.0, meant_in section named.1) ≡ true = sym (c.is_located.ensures section) ∙ c.if-is_located.true in
    first_location file r parts holds c.args.unit c.requires.unit c.args.id c.loop-column.column named.0 named.1 at c.loop-column.invariant is c.place_told.result (c.place_told.ensures file r holds)

pub loop-column-preserved : goal.loop-column-preserved
loop-column-preserved c =
    let parts = c.args.parts.now in
    let held = held_at parts.units.units.items c.args.unit in
    let of = table_held parts.units c.args.unit in
    let unit = c.unit_of-own.result.now in
    let named = c.attribute_of-name.result in
    let known : c.args.id < length unit.forest.entries = subst (λ (z : HeadAndForest). c.args.id < length z.forest.entries) (sym c.unit_of-own.ensures) c.requires.id in
    let inside : c.loop-column.column < (entry_at unit.forest.entries c.args.id).count = subst (λ (z : Entry). c.loop-column.column < z.count) (entry_there unit unit c.forest.result.now c.args.id c.entry-column-end.result refl c.forest.ensures c.entry-column-end.ensures) c.loop-column-test.true in
    let there : c.loop-column.column < (entry_at held.forest.entries c.args.id).count = subst (λ (z : HeadAndForest). c.loop-column.column < (entry_at z.forest.entries c.args.id).count) c.unit_of-own.ensures inside in
    let tabled = subst (λ (z : HeadAndForest). IsUnitWithTable z c.table_of-table.result.now) (sym c.unit_of-own.ensures) c.table_of-table.ensures.unit in
    let at = attribute_held held unit of c.table_of-table.result.now c.unit_of-own.ensures c.table_of-table.ensures.table tabled c.args.id c.loop-column.column named.0 named.1 known inside c.attribute_of-name.ensures.name c.attribute_of-name.ensures.value in
    let other : is_located (named.0, meant_in held.forest.section named.1) ≡ false = sym (c.is_located.ensures held.forest.section) ∙ c.if-is_located.false in
    let with_table = some_with_table parts.units c.requires.held c.args.unit c.requires.unit in
    none_further is_located (attributes_at held.forest (declarations_of of) c.args.id) c.loop-column.column (named.0, meant_in held.forest.section named.1) at c.loop-column.invariant (attribute_inside held of with_table c.args.id c.requires.id c.loop-column.column there) other

pub returns : goal.returns
returns c = λ (file : List ℕ) (r : Linkable) (holds : HoldsParts file r c.args.parts.now).
    let parts = c.args.parts.now in
    let held = held_at parts.units.units.items c.args.unit in
    let of = table_held parts.units c.args.unit in
    let attributes : List (ℕ × Meaning) = attributes_at held.forest (declarations_of of) c.args.id in
    let count : c.entry-column-end.result.count ≡ length attributes =
    ap (λ (z : Entry). z.count) (entry_there c.unit_of-own.result.now held c.forest.result.now c.args.id c.entry-column-end.result c.unit_of-own.ensures c.forest.ensures c.entry-column-end.ensures) ∙ sym (attributes_counted held of (some_with_table parts.units c.requires.held c.args.unit c.requires.unit) c.args.id c.requires.id) in
    let end : length attributes ≤ c.loop-column.column = omega (arith, count, c.loop-column-test.false) in
    no_location file r parts holds c.args.unit c.requires.unit c.args.id (none_whole is_located attributes c.loop-column.column c.loop-column.invariant end)
