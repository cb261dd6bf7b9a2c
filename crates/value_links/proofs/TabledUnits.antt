-- Units that are held, each with the table by which it was read.
use Rattle.std.proofs.Common.{◌≡◌, ◌≢◌, ◌≤◌, ◌<◌, ◌+◌, ◌^◌, ◌∙◌, ℕ, zero, suc, List, [], ◌∷◌, length, get_or, sym, ap, subst, refl, arith}
use Rattle.std.specs.Prelude.{slice_index}
use Rattle.std.proofs.lemmas.List.{get_or_default}
use Rattle.entry_arena.specs.declared.entry.Entry.{Entry}
use Rattle.entry_arena.specs.Arena.{Arena, entry_at, value_at}
use Rattle.entry_arena.specs.Order.{IsInOrder}
use Rattle.entry_arena.specs.Trees.{declared_at, listed_to}
use Rattle.entry_arena.proofs.TreeLaws.{trees_are_walks}
use Rattle.form_codec.specs.Values.{LiesIn}
use Rattle.abbrev_tables.specs.Listings.{Listing}
use Rattle.fixed_width.specs.InitialLengths.{unit_end}
use Rattle.entry_read.specs.Heads.{Follow, IsHead, type_unit, unit_type, header_size}
use Rattle.entry_read.specs.Units.{HeadAndForest, declarations_of, entries_at, IsUnit}
use Rattle.entry_read.specs.Places.{HaveOwners}
use Rattle.entry_read.proofs.OwnerLaws.{values_belong}
use Rattle.entry_read.proofs.PlaceLaws.{units_lie}
use Rattle.value_links.specs.declared.units.Units.{Units}
use Rattle.value_links.specs.declared.units.NamedTable.{NamedTable}
use Rattle.value_links.specs.Reading.{UnitRead, unit_heads, unit_among, IsUnitRead}
use Rattle.value_links.specs.World.{head_and_forest, table_at}
use Rattle.value_links.specs.Links.{held_at}
use Rattle.value_links.specs.Parts.{HoldUnits}
use Rattle.value_links.specs.inside.Checks.{AreSomeUnits, table_held, IsUnitWithTable}
use Rattle.value_links.proofs.HeldUnits.{few_units, unit_is, held_count, held_is}

pub follow_head : (section : List ℕ) (units : List UnitRead) (a e u : ℕ) → Follow section (unit_heads units) a e → u < length units → IsHead section (unit_among units u).head
follow_head section [] a e u f inside = absurd (omega arith)
follow_head section (x ∷ units) a e zero (here, stands, rest) inside = stands
follow_head section (x ∷ units) a e (suc u) (here, stands, rest) inside = follow_head section units (a + x.head.len) e u rest (omega arith)

-- the table that is held of a unit is the one by which it was read
pub table_is : (read : List UnitRead) (held : Units) (u : ℕ) → HoldUnits read held → u < length read → table_held held u ≡ (unit_among read u).table
table_is read held u holds inside = ap (λ z. z.table) (holds.tables.each u inside)

-- what is read is what is held, by a table
pub read_with_table : (info abbrevs : List ℕ) (unit : UnitRead) → IsHead info unit.head → IsUnitRead info abbrevs unit → IsUnitWithTable (head_and_forest unit) unit.table
read_with_table info abbrevs unit head is = record {
  table = (abbrevs, unit.head.table, is.table);
  head = subst (λ (z : List ℕ). IsHead z unit.head) (sym is.section) head;
  held = subst (λ (z : List ℕ). (place : ℕ) × IsUnit z unit.head (declarations_of unit.table) (listed_to unit.forest place)) (sym is.section) is.entries;
}

module _ (held : Units) (some : AreSomeUnits held) where
  some_count : length held.units.items ≡ length some.2.read
  some_count = held_count some.2.read held.units.items some.2.holds.units

  pub some_few : length held.units.items < 2 ^ 32
  some_few = subst (λ (z : ℕ). z < 2 ^ 32) (sym some_count) (few_units some.0 some.1 some.2.read some.2.units)

  module _ (u : ℕ) (inside : u < length held.units.items) where
    known : u < length some.2.read
    known = subst (λ (z : ℕ). u < z) some_count inside

    pub some_with_table : IsUnitWithTable (held_at held.units.items u) (table_held held u)
    some_with_table =
        let unit = unit_among some.2.read u in
        let there = read_with_table some.0 some.1 unit (follow_head some.0 some.2.read 0 (length some.0) u some.2.units.tiled known) (unit_is some.0 some.1 some.2.read some.2.units u known) in
        subst (λ (z : HeadAndForest). IsUnitWithTable z (table_held held u)) (sym (held_is some.2.read held.units.items some.2.holds.units u known))
        (subst (λ (z : Listing). IsUnitWithTable (head_and_forest unit) z) (sym (table_is some.2.read held u some.2.holds known)) there)

    pub some_section : (held_at held.units.items u).forest.section ≡ some.0
    some_section = ap (λ z. z.forest.section) (held_is some.2.read held.units.items some.2.holds.units u known) ∙ (unit_is some.0 some.1 some.2.read some.2.units u known).section

    -- the table that is looked up
    pub table_from : (number : ℕ) (named : NamedTable) → number ≡ get_or held.table_of.items u number → named ≡ get_or held.tables.items number named → named.table ≡ table_held held u
    table_from number named e f =
        let tables = some.2.holds.tables in
        let counted : length held.table_of.items ≡ length some.2.read = tables.count in
        let u_in : u < length held.table_of.items = subst (λ (z : ℕ). u < z) (sym counted) known in
        let here : number ≡ slice_index held.table_of.items u = e ∙ get_or_default held.table_of.items u number 0 u_in in
        let inside : number < length held.tables.items = subst (λ (z : ℕ). z < length held.tables.items) (sym here) (tables.inside u known) in
        ap (λ z. z.table) (f ∙ get_or_default held.tables.items number named (table_at [] 0) inside ∙ ap (table_at held.tables.items) here)

-- ONE UNIT WITH ITS TABLE

module _ (unit : HeadAndForest) (table : Listing) (is : IsUnitWithTable unit table) where
  pub owners : HaveOwners (declarations_of table) unit.forest
  owners = values_belong unit.forest.section unit.head (declarations_of table) unit.forest refl is.held

  pub in_order : IsInOrder unit.forest
  in_order = (units_lie unit.forest.section unit.head (declarations_of table) unit.forest refl is.held).order

  pub has_root : 0 < length unit.forest.entries
  has_root = filled unit.forest.entries ((trees_are_walks unit.forest.section (declarations_of table) (entries_at unit.head) (listed_to unit.forest is.held.0)).0 is.held.1.tree).some
    where
      filled : (entries : List Entry) → entries ≢ [] → 0 < length entries
      filled [] some = absurd (some refl)
      filled (e ∷ entries) some = omega arith

  -- the field type_offset lies in the section
  pub type_inside : unit.head.kind ≡ type_unit → unit.head.at + 20 ≤ length unit.forest.section
  type_inside kind =
      let fields = is.head.fields in
      let same : unit.head.kind ≡ unit_type unit.forest.section unit.head.at = ap (λ z. z.kind) fields in
      let size : header_size (unit_type unit.forest.section unit.head.at) ≡ 24 = ap header_size (sym same ∙ kind) in
      let fits : unit.head.at + header_size (unit_type unit.forest.section unit.head.at) ≤ unit_end unit.forest.section unit.head.at = is.head.rules.fits in
      let whole : unit.head.at + 24 ≤ unit_end unit.forest.section unit.head.at = subst (λ (z : ℕ). unit.head.at + z ≤ unit_end unit.forest.section unit.head.at) size fits in
      let inside : unit_end unit.forest.section unit.head.at ≤ length unit.forest.section = is.head.rules.inside in
      omega arith

  -- an entry, as it is read from what is held
  module _ (forest : Arena) (same : forest ≡ unit.forest) (id : ℕ) (inside : id < length unit.forest.entries) (entry : Entry) (e : entry ≡ entry_at forest.entries id) where
    pub entry_is : entry ≡ entry_at unit.forest.entries id
    entry_is = e ∙ ap (λ z. entry_at z.entries id) same

    pub entry_declared : entry.decl < length (declarations_of table)
    entry_declared = subst (λ (z : Entry). z.decl < length (declarations_of table)) (sym entry_is) (owners.declared id inside)

    pub entry_counted : entry.count ≡ length (declared_at (declarations_of table) entry.decl).columns
    entry_counted = subst (λ (z : Entry). z.count ≡ length (declared_at (declarations_of table) z.decl).columns) (sym entry_is) (owners.counted id inside)

    pub entry_inside : entry.first + entry.count ≤ length unit.forest.values
    entry_inside = subst (λ (z : Entry). z.first + z.count ≤ length unit.forest.values) (sym entry_is) (owners.inside id inside)

  pub value_lies : (k : ℕ) → k < length unit.forest.values → LiesIn (length unit.forest.section) (value_at unit.forest.values k)
  value_lies k inside = in_order.spans.inside k inside
