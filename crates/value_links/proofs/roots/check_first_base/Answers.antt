use Rattle.std.proofs.Common.{◌≤◌, ℕ, List, length, take, drop, sym, subst}
use Rattle.entry_arena.specs.declared.entry.Entry.{Entry}
use Rattle.entry_arena.specs.Arena.{entry_at}
use Rattle.entry_arena.specs.Trees.{declared_at}
use Rattle.entry_arena.proofs.StepLaws.{values_inside}
use Rattle.entry_read.specs.Units.{HeadAndForest, declarations_of}
use Rattle.value_links.specs.Reading.{Linkable}
use Rattle.value_links.specs.Linked.{IsFirstLow}
use Rattle.value_links.specs.Parts.{HoldsParts}
use Rattle.value_links.specs.inside.Checks.{IsUnitWithTable, root_attributes}
use Rattle.value_links.proofs.TabledUnits.{has_root}
use Rattle.value_links.proofs.RootValues.{column_inside, first_inside}
use Rattle.value_links.proofs.RootAddresses.{no_first, first_number, low_stands, address_there}
use Rattle.value_links.proofs.roots.check_first_base.Goals as goal

pub returns-in_default-clause-found : goal.returns-in_default-clause-found
returns-in_default-clause-found c = λ (file : List ℕ) (r : Linkable) (holds : HoldsParts file r c.args.parts.now) (i place : ℕ) (low : IsFirstLow r c.args.number i place).
    absurd (no_first file r c.args.parts.now holds c.args.number c.requires.number c.unit_of-unit.result.now c.table_of-table.result.now c.unit_of-unit.ensures c.table_of-table.ensures.table c.in_default.ensures i place low)

pub returns-in_default-number_in-clause-found : goal.returns-in_default-number_in-clause-found
returns-in_default-number_in-clause-found c = λ (file : List ℕ) (r : Linkable) (holds : HoldsParts file r c.args.parts.now) (i place : ℕ) (low : IsFirstLow r c.args.number i place).
    absurd (c.in_default-number_in.ensures i (first_number file r c.args.parts.now holds c.args.number c.requires.number c.unit_of-unit.result.now c.table_of-table.result.now c.unit_of-unit.ensures c.table_of-table.ensures.table c.in-Some.column c.in-Some.ensures c.root_attribute.result.0 c.root_attribute.result.1 c.root_attribute.ensures i place low))

pub place_of_value-requires-clause-id : goal.place_of_value-requires-clause-id
place_of_value-requires-clause-id c =
    let tabled = subst (λ (z : HeadAndForest). IsUnitWithTable z c.table_of-table.result.now) (sym c.unit_of-unit.ensures) c.table_of-table.ensures.unit in
    has_root c.unit_of-unit.result.now c.table_of-table.result.now tabled

pub place_of_value-requires-clause-column : goal.place_of_value-requires-clause-column
place_of_value-requires-clause-column c =
    let unit = c.unit_of-unit.result.now in
    let table = c.table_of-table.result.now in
    let tabled = subst (λ (z : HeadAndForest). IsUnitWithTable z table) (sym c.unit_of-unit.ensures) c.table_of-table.ensures.unit in
    column_inside unit table tabled 0 (has_root unit table tabled) c.in-Some.column (first_inside (root_attributes unit.forest (declarations_of table)) c.in-Some.column c.in-Some.ensures)

pub returns-in-None-clause-found : goal.returns-in-None-clause-found
returns-in-None-clause-found c = λ (file : List ℕ) (r : Linkable) (holds : HoldsParts file r c.args.parts.now) (i place : ℕ) (low : IsFirstLow r c.args.number i place).
    address_there file r c.args.parts.now holds c.args.number c.requires.number c.unit_of-unit.result.now c.table_of-table.result.now c.unit_of-unit.ensures c.table_of-table.ensures.table c.in-Some.column c.in-Some.ensures c.root_attribute.result.0 c.root_attribute.result.1 c.root_attribute.ensures c.in-Some-number_in.index c.in-Some-number_in.ensures (c.in-None.ensures file r holds) i place low

pub returns-in-Some-number_fault-clause-fault : goal.returns-in-Some-number_fault-clause-fault
returns-in-Some-number_fault-clause-fault c = λ (file : List ℕ) (r : Linkable) (holds : HoldsParts file r c.args.parts.now).
    let unit = c.unit_of-unit.result.now in
    let table = c.table_of-table.result.now in
    let less = first_inside (root_attributes unit.forest (declarations_of table)) c.in-Some.column c.in-Some.ensures in
    let stands = low_stands file r c.args.parts.now holds c.args.number c.requires.number unit table c.unit_of-unit.ensures c.table_of-table.ensures.table c.in-Some.column c.in-Some.ensures c.root_attribute.result.0 c.root_attribute.result.1 c.root_attribute.ensures c.in-Some-number_in.index c.in-Some-number_in.ensures c.place_of_value.result less c.table_of-table.ensures.unit c.place_of_value.ensures in
    (c.in-Some-number_in.index, stands, c.in-Some-number_fault.ensures file r holds)

pub returns-in-Some-number_fault-clause-inside : goal.returns-in-Some-number_fault-clause-inside
returns-in-Some-number_fault-clause-inside c =
    let u = c.unit_of-unit.result.now in
    let k = c.in-Some.column in
    let at = c.place_of_value.ensures in
    let entry : Entry = entry_at u.forest.entries 0 in
    let inside : c.place_of_value.result ≤ length u.forest.section = values_inside u.forest.section (take k (declared_at (declarations_of c.table_of-table.result.now) entry.decl).columns) (take k (take entry.count (drop entry.first u.forest.values))) at.values_at c.place_of_value.result at.coded.inside at.valued in
    subst (λ (z : HeadAndForest). c.place_of_value.result ≤ length z.forest.section) c.unit_of-unit.ensures inside
