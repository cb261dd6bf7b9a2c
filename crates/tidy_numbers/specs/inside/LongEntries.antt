-- The numbers of entries and of codes 0 that have a byte too many, by where they stand in .debug_info. Places count from its first byte.
use Rattle.std.specs.Prelude.{◌≡◌, ◌<◌, ◌⊎◌, ℕ, List, length, take, drop, slice_index}
use Rattle.leb_codec.specs.Leb.{Uleb}
use Rattle.form_codec.specs.declared.value.Value.{Value}
use Rattle.abbrev_tables.specs.declared.decl.Spec.{Spec}
use Rattle.abbrev_tables.specs.Listings.{Listing, spec_at}
use Rattle.entry_arena.specs.declared.entry.ChainEnd.{ChainEnd}
use Rattle.entry_arena.specs.Arena.{chain_end_at}
use Rattle.entry_arena.specs.Trees.{SpellsBetween, ValuesBetween}
use Rattle.entry_read.specs.Units.{HeadAndForest}
use Rattle.value_links.specs.Reading.{UnitRead}
use Rattle.value_links.specs.Values.{entry_of, declaration_of}
use Rattle.value_links.specs.Links.{held_at}
use Rattle.value_links.specs.World.{World, table_at}
use Rattle.tidy_numbers.specs.Fronts.{BeginsLong}
use Rattle.tidy_numbers.specs.LongUnits.{BeginsLongValue}

-- the code of an entry stands at a place, and behind it the values of columns
pub record IsEntryWith (info : List ℕ) (columns : List Spec) (at : ℕ) : Type 0 where
  pub code : ℕ
  pub values_at : ℕ
  pub coded : SpellsBetween (Uleb code) info at values_at
  pub values : List Value
  pub to : ℕ
  pub valued : ValuesBetween info columns values values_at to

-- The value of the column with a number. The first value stands at `from`.
pub record IsLongColumnValue (info : List ℕ) (columns : List Spec) (from number p : ℕ) : Type 0 where
  pub known : number < length columns
  pub values : List Value
  pub valued : ValuesBetween info (take number columns) values from p
  pub long : BeginsLongValue (spec_at columns number) (drop p info)

-- the value of one of so many columns
abbrev pub IsLongAmongValues : List ℕ → List Spec → ℕ → ℕ → ℕ → Type 0
IsLongAmongValues info columns from count p = (number : ℕ) × (number < count) × IsLongColumnValue info columns from number p

-- a value behind the code at a place
abbrev pub IsLongBehindCode : List ℕ → List Spec → ℕ → ℕ → Type 0
IsLongBehindCode info columns at p = (code : ℕ) × (from : ℕ) × SpellsBetween (Uleb code) info at from × IsLongAmongValues info columns from (length columns) p

-- the code at a place, or a value behind it
abbrev pub IsLongInEntry : List ℕ → List Spec → ℕ → ℕ → Type 0
IsLongInEntry info columns at p = (BeginsLong (drop p info) × (p ≡ at)) ⊎ IsLongBehindCode info columns at p

-- a number of the entry of a unit with a number
abbrev pub IsLongInEntryOf : UnitRead → ℕ → ℕ → Type 0
IsLongInEntryOf unit id p = IsLongInEntry unit.forest.section (declaration_of unit id).columns (entry_of unit id).at p

-- a code 0
abbrev pub IsLongEndAt : List ℕ → List ChainEnd → ℕ → ℕ → Type 0
IsLongEndAt info ends number p = BeginsLong (drop p info) × (p ≡ (chain_end_at ends number).at)

-- a unit as it is held, with the table by which it was read
abbrev pub unit_by : HeadAndForest → Listing → UnitRead
unit_by unit table = record { head = unit.head; table = table; forest = unit.forest }

-- the unit with a number
abbrev pub unit_held : World → ℕ → UnitRead
unit_held world u = unit_by (held_at world.units u) (table_at world.tables (slice_index world.table_of u)).table
