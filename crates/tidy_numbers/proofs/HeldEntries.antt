-- The entries of the units of a world, as they are held with what is read of its file.
use Rattle.std.proofs.Common.{◌≡◌, ◌<◌, ◌+◌, ◌^◌, ◌∙◌, ◌⊎◌, ℕ, List, length, get_or, sym, ap, subst}
use Rattle.std.specs.Prelude.{Option, Some, slice_index}
use Rattle.std.proofs.lemmas.List.{get_or_read}
use Rattle.dw_base.specs.declared.fault.Reach.{Reach}
use Rattle.abbrev_tables.specs.Listings.{Listing}
use Rattle.entry_read.specs.Units.{HeadAndForest, declarations_of, IsTable, IsUnitHeld}
use Rattle.value_links.specs.declared.units.NamedTable.{NamedTable}
use Rattle.value_links.specs.Sections.{debug_info, debug_abbrev}
use Rattle.value_links.specs.Reading.{UnitRead, Reading, no_unit, unit_at, declarations, IsUnitRead}
use Rattle.value_links.specs.Links.{held_at}
use Rattle.value_links.specs.World.{World, table_at, head_and_forest, Holds, IsWorldOf}
use Rattle.value_links.proofs.HeldUnits.{few_units, unit_is, held_count, held_is}
use Rattle.tidy_places.specs.Firsts.{IsLeastFound}
use Rattle.tidy_numbers.specs.LongNumbers.{IsLongInEntries}
use Rattle.tidy_numbers.specs.LongUnits.{IsLongInUnit}
use Rattle.tidy_numbers.specs.inside.LongEntries.{unit_by, unit_held}
use Rattle.tidy_numbers.proofs.EarlierPlaces.{least_same, least_of_more}

-- a unit that is held is the one that is read
module _ (world : World) (s : Reading) (holds : Holds world.image world s) where
  as_many : length world.units ≡ length s.links.units
  as_many = held_count s.links.units world.units holds.units

  unit_same : (u : ℕ) → u < length s.links.units → unit_held world u ≡ unit_at s.links u
  unit_same u inside =
      let table = ap (λ (t : NamedTable). t.table) (holds.tables.each u inside) in
      ap (λ (h : HeadAndForest). unit_by h (table_at world.tables (slice_index world.table_of u)).table) (held_is s.links.units world.units holds.units u inside) ∙ ap (unit_by (head_and_forest (unit_at s.links u))) table

  -- so the numbers of all units that are held are those of what is read
  to_read : (p : ℕ) → (u : ℕ) × (u < length world.units) × IsLongInUnit (unit_held world u) p → IsLongInEntries s p
  to_read p (u, inside, long) =
      let there : u < length s.links.units = subst (λ (n : ℕ). u < n) as_many inside in
      (u, there, subst (λ (unit : UnitRead). IsLongInUnit unit p) (unit_same u there) long)

  from_read : (p : ℕ) → IsLongInEntries s p → (u : ℕ) × (u < length world.units) × IsLongInUnit (unit_held world u) p
  from_read p (u, inside, long) = (u, subst (λ (n : ℕ). u < n) (sym as_many) inside, subst (λ (unit : UnitRead). IsLongInUnit unit p) (sym (unit_same u inside)) long)

  pub units_looked : (found : Option ℕ) → IsLeastFound (λ p. (u : ℕ) × (u < length world.units) × IsLongInUnit (unit_held world u) p) found → IsLeastFound (IsLongInEntries s) found
  units_looked found least = least_same (λ p. (u : ℕ) × (u < length world.units) × IsLongInUnit (unit_held world u) p) (IsLongInEntries s) to_read from_read found least

module _ (world : World) (some : (reach : Reach) × IsWorldOf world.image reach world) where
  -- numbers of 32 bits name the units
  pub few_held : length world.units < 2 ^ 32
  few_held = subst (λ (n : ℕ). n < 2 ^ 32) (sym (held_count some.1.r.links.units world.units some.1.holds.units)) (few_units (debug_info world.image) (debug_abbrev world.image) some.1.r.links.units some.1.read.links.units)

  -- a unit that was taken from what is held, with its table
  module _ (u : ℕ) (inside : u < length world.units) (units : List HeadAndForest) (own : HeadAndForest) (table : Listing) (same : units ≡ world.units) (is : own ≡ get_or units u own) (table_is : table ≡ (table_at world.tables (slice_index world.table_of u)).table) where
    there : u < length some.1.r.links.units
    there = subst (λ (n : ℕ). u < n) (held_count some.1.r.links.units world.units some.1.holds.units) inside

    own_is : own ≡ held_at world.units u
    own_is = get_or_read world.units u own inside (subst (λ (z : List HeadAndForest). own ≡ get_or z u own) same is) (head_and_forest no_unit)

    as_held : unit_by own table ≡ unit_held world u
    as_held = ap (λ (h : HeadAndForest). unit_by h table) own_is ∙ ap (unit_by (held_at world.units u)) table_is

    as_read : unit_by own table ≡ unit_at some.1.r.links u
    as_read = as_held ∙ unit_same world some.1.r some.1.holds u there

    read : IsUnitRead (debug_info world.image) (debug_abbrev world.image) (unit_at some.1.r.links u)
    read = unit_is (debug_info world.image) (debug_abbrev world.image) some.1.r.links.units some.1.read.links.units u there

    pub table_there : IsTable table
    table_there = subst (λ (unit : UnitRead). IsTable unit.table) (sym as_read) (debug_abbrev world.image, (unit_at some.1.r.links u).head.table, read.table)

    pub unit_there : IsUnitHeld own.forest.section own.head (declarations_of table) own.forest
    unit_there =
        let unit : UnitRead = unit_at some.1.r.links u in
        let by_section : IsUnitHeld unit.forest.section unit.head (declarations unit) unit.forest = subst (λ (z : List ℕ). IsUnitHeld z unit.head (declarations unit) unit.forest) (sym read.section) read.entries in
        subst (λ (z : UnitRead). IsUnitHeld z.forest.section z.head (declarations z) z.forest) (sym as_read) by_section

    pub unit_more : (first here found : Option ℕ) → IsLeastFound (λ p. (v : ℕ) × (v < u) × IsLongInUnit (unit_held world v) p) first → IsLeastFound (IsLongInUnit (unit_by own table)) here → IsLeastFound (λ p. (first ≡ Some p) ⊎ (here ≡ Some p)) found → IsLeastFound (λ p. (v : ℕ) × (v < u + 1) × IsLongInUnit (unit_held world v) p) found
    unit_more first here found before least earlier =
        least_of_more (λ (v : ℕ). IsLongInUnit (unit_held world v)) u first here found before (subst (λ (unit : UnitRead). IsLeastFound (IsLongInUnit unit) here) as_held least) earlier
