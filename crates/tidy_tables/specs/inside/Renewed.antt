-- The tables of a file that is written anew for another: what is used of both files, and what is so of the table of a unit.
use Rattle.std.specs.Prelude.{◌≡◌, ◌≤◌, ◌<◌, ◌+◌, ℕ, List, length, slice_index}
use Rattle.leb_codec.specs.Numbering.{IsUsed, IsNumbering, numbering_size, used_count}
use Rattle.abbrev_tables.specs.Listings.{IsTableAt}
use Rattle.entry_arena.specs.Trees.{declared_at}
use Rattle.value_links.specs.Reading.{Linkable, unit_at, declarations}
use Rattle.written_files.specs.Classes.{HasLeastCodes, HasOrderedCodes}
use Rattle.written_files.specs.Tidy.{IsRenewed, AreTidyTables}
use Rattle.tidy_tables.specs.Untidy.{place_of, number_of, AreUsesOf}

-- What is used of both files: units and entries correspond, entries have declarations of their tables, and these are tidy and have least
-- codes, which are the first numbers. The section is .debug_abbrev of the written file.
pub record AreRenewed (section : List ℕ) (r s : Linkable) : Type 0 where
  pub units : length s.units ≡ length r.units
  pub entries : (u : ℕ) → u < length s.units → length (unit_at s u).forest.entries ≡ length (unit_at r u).forest.entries
  pub declared : (u id : ℕ) → u < length r.units → id < length (unit_at r u).forest.entries → number_of r u id < length (declarations (unit_at r u))
  pub again : (u id : ℕ) → u < length s.units → id < length (unit_at s u).forest.entries → number_of s u id < length (declarations (unit_at s u))
  pub stands : (u : ℕ) → u < length s.units → IsTableAt section (place_of s u) (unit_at s u).table
  pub tables : AreTidyTables r s section
  pub codes : (u : ℕ) → u < length r.units → HasLeastCodes r s u
  pub first : (u : ℕ) → u < length r.units → HasOrderedCodes r s u

-- The table that a unit names in the written file has the used declarations of the old one, with numbers from 1 on, which take the
-- fewest bytes; and each entry has the one with the number of its own.
pub record IsRenumbered (r s : Linkable) (u : ℕ) : Type 0 where
  pub uses : List ℕ
  pub used : AreUsesOf r u uses
  pub numbers : List ℕ
  pub numbered : IsNumbering uses numbers
  pub count : length (declarations (unit_at s u)) ≡ used_count uses
  pub each : (i : ℕ) → IsUsed uses i → (k : ℕ) × (k < length (declarations (unit_at s u))) × (slice_index numbers i ≡ k + 1) × IsRenewed (declared_at (declarations (unit_at r u)) i) (declared_at (declarations (unit_at s u)) k)
  pub source : (k : ℕ) → k < length (declarations (unit_at s u)) → (i : ℕ) × IsUsed uses i × (slice_index numbers i ≡ k + 1)
  pub code : (k : ℕ) → k < length (declarations (unit_at s u)) → (declared_at (declarations (unit_at s u)) k).code ≡ k + 1
  pub entry : (v id : ℕ) → v < length s.units → place_of r v ≡ place_of r u → id < length (unit_at s v).forest.entries → slice_index numbers (number_of r v id) ≡ number_of s v id + 1
  pub least : (others : List ℕ) → IsNumbering uses others → numbering_size uses numbers ≤ numbering_size uses others
