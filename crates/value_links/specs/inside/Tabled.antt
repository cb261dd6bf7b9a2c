-- What the parts of the reader of units give: places of tables, tables, their numbers, and units.
use Rattle.std.specs.Prelude.{◌≡◌, ◌<◌, ℕ, List, length, map, take, slice_index}
use Rattle.std.specs.List.{All, Contains}
use Rattle.std.specs.List.Sorted.{IsStrictlyIncreasing}
use Rattle.abbrev_tables.specs.Listings.{IsTableAt}
use Rattle.entry_read.specs.declared.head.UnitHead.{UnitHead}
use Rattle.entry_read.specs.declared.unit.Counts.{Counts}
use Rattle.entry_read.specs.Heads.{head_numbered}
use Rattle.entry_read.specs.Units.{HeadAndForest}
use Rattle.value_links.specs.declared.units.NamedTable.{NamedTable}
use Rattle.value_links.specs.Reading.{UnitRead, unit_heads, unit_among, counts_of, AreWithin, IsUnitRead}
use Rattle.value_links.specs.World.{head_and_forest, table_at, named_by}

-- where the tables stand that headers name
abbrev pub named_places : List UnitHead → List ℕ
named_places heads = map (λ (head : UnitHead). head.table) heads

abbrev pub places_of : List NamedTable → List ℕ
places_of tables = map (λ (t : NamedTable). t.place) tables

-- The places are those that headers name, each once, and rising.
pub record AreTablePlaces (heads : List UnitHead) (places : List ℕ) : Type 0 where
  pub rising : IsStrictlyIncreasing places
  pub each : (place : ℕ) → Contains (named_places heads) place → Contains places place
  pub named : (place : ℕ) → Contains places place → Contains (named_places heads) place

-- of each header the number of the place that it names
pub record AreNumbers (heads : List UnitHead) (places numbers : List ℕ) : Type 0 where
  pub count : length numbers ≡ length heads
  pub inside : (u : ℕ) → u < length heads → slice_index numbers u < length places
  pub each : (u : ℕ) → u < length heads → slice_index places (slice_index numbers u) ≡ (head_numbered heads u).table

-- a table that stands at its place
pub record IsNamed (abbrevs : List ℕ) (named : NamedTable) : Type 0 where
  pub inside : named.place < length abbrevs
  pub stands : IsTableAt abbrevs named.place named.table

-- The units of the first of these headers are held, by the tables with these numbers.
pub record HoldFront (info abbrevs : List ℕ) (heads : List UnitHead) (tables : List NamedTable) (numbers : List ℕ) (units : List HeadAndForest) (counts : Counts) (n : ℕ) : Type 0 where
  pub read : List UnitRead
  pub held : units ≡ map head_and_forest read
  pub front : unit_heads read ≡ take n heads
  pub size : length read ≡ n
  pub each : All (IsUnitRead info abbrevs) read
  pub within : AreWithin read
  pub counted : counts ≡ counts_of read
  pub tabled : (u : ℕ) → u < n → table_at tables (slice_index numbers u) ≡ named_by (unit_among read u)
