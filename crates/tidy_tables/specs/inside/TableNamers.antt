-- The units that name an abbreviation table, and what is read of them.
use Rattle.std.specs.Prelude.{◌≡◌, ◌≢◌, ◌≤◌, ◌<◌, ◌++◌, ℕ, zero, suc, List, [], ◌∷◌, length, map, slice_index, slice_index_or, nat_eq, if◌then◌else◌}
use Rattle.std.specs.List.{sum_by}
use Rattle.entry_arena.specs.Arena.{nothing_of}
use Rattle.entry_read.specs.Heads.{no_head}
use Rattle.entry_read.specs.Units.{HeadAndForest, declarations_of, IsTable, IsUnitHeld, entry_limit}
use Rattle.abbrev_tables.specs.Listings.{Listing}
use Rattle.value_links.specs.declared.units.NamedTable.{NamedTable}
use Rattle.tidy_tables.specs.declared.table_namers.Namers.{Namers}

-- the unit with a number; past the end there is none, and an empty one stands for it
abbrev pub unit_in : List HeadAndForest → ℕ → HeadAndForest
unit_in units u = slice_index_or units u (record { head = no_head; forest = nothing_of [] })

-- the numbers of those of the first so many units that have the table with a number, in their order
abbrev pub units_with : List ℕ → ℕ → ℕ → List ℕ
units_with table_of i zero = []
units_with table_of i (suc n) = if nat_eq (slice_index table_of n) i then units_with table_of i n ++ n ∷ [] else units_with table_of i n

-- the units that are listed for the table with a number; past the end there are none
abbrev pub namers_in : List Namers → ℕ → List ℕ
namers_in all i = slice_index_or (map (λ (namers : Namers). namers.units.items) all) i []

-- for each of so many tables those of the first so many units that have it
pub record AreNamers (table_of : List ℕ) (tables units : ℕ) (all : List Namers) : Type 0 where
  pub count : length all ≡ tables
  pub each : (i : ℕ) → i < tables → namers_in all i ≡ units_with table_of i units

-- how many entries a unit has
abbrev pub entry_count : HeadAndForest → ℕ
entry_count unit = length unit.forest.entries

-- how many the unit with a number has
abbrev pub entries_of : List HeadAndForest → ℕ → ℕ
entries_of units u = entry_count (unit_in units u)

-- Those units that have the table with a number name its place, and no others do. Their entries are by its declarations, all in one
-- section, and there are no more of them than a file may have.
pub record AreOfTable (units : List HeadAndForest) (table : NamedTable) (section : List ℕ) (table_of : List ℕ) (i : ℕ) : Type 0 where
  pub stands : IsTable table.table
  pub named : (u : ℕ) → u < length units → slice_index table_of u ≡ i → (unit_in units u).head.table ≡ table.place
  pub apart : (u : ℕ) → u < length units → slice_index table_of u ≢ i → (unit_in units u).head.table ≢ table.place
  pub lent : (u : ℕ) → u < length units → slice_index table_of u ≡ i → (unit_in units u).forest.section ≡ section
  pub held : (u : ℕ) → u < length units → slice_index table_of u ≡ i → IsUnitHeld section (unit_in units u).head (declarations_of table.table) (unit_in units u).forest
  pub few : sum_by entry_count units ≤ entry_limit

-- The listed units have entries by the declarations of a table, all in one section, and no more than a file may have.
pub record AreUnitsOf (units : List HeadAndForest) (table : Listing) (named : List ℕ) (section : List ℕ) : Type 0 where
  pub known : (n : ℕ) → n < length named → slice_index named n < length units
  pub held : (n : ℕ) → n < length named → IsUnitHeld section (unit_in units (slice_index named n)).head (declarations_of table) (unit_in units (slice_index named n)).forest
  pub lent : (n : ℕ) → n < length named → (unit_in units (slice_index named n)).forest.section ≡ section
  pub few : sum_by (entries_of units) named ≤ entry_limit
