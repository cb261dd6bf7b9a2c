-- The numbers of a file that have a byte too many, where nothing else says how many bytes they have (DWARF 5 section 7.6). Places are
-- offsets in the file.
use Rattle.std.specs.Prelude.{◌≡◌, ◌<◌, ◌+◌, ◌⊎◌, ℕ, List, length, drop, true}
use Rattle.dw_base.specs.declared.classes.Classes.{Classes}
use Rattle.dw_base.specs.declared.fault.Span.{Span}
use Rattle.form_codec.specs.Values.{bytes_in}
use Rattle.entry_read.specs.Expressions.{IsExprAt}
use Rattle.list_model.specs.declared.entry.ListKind.{ListKind}
use Rattle.list_model.specs.declared.entry.ListKind.TheVariants.{Locations}
use Rattle.value_links.specs.Reading.{Reading, unit_at}
use Rattle.value_links.specs.Sections.{offset_named, debug_abbrev, info_name, abbrev_name, lists_name}
use Rattle.value_links.specs.Whole.{IsReading}
use Rattle.tidy_numbers.specs.LongTables.{IsLongInTable}
use Rattle.tidy_numbers.specs.LongUnits.{IsLongInUnit}
use Rattle.tidy_numbers.specs.LongOperations.{IsLongInExpression}
use Rattle.tidy_numbers.specs.LongLists.{IsLongInLists, IsLongInViews}

-- this holds at a place of the section with a name
abbrev pub HoldsIn : List ℕ → List ℕ → (ℕ → Type 0) → ℕ → Type 0
HoldsIn file name Holds p = (inner : ℕ) × Holds inner × (p ≡ offset_named file name + inner)

-- a number of a table that a unit names
abbrev pub IsLongInTables : List ℕ → Reading → ℕ → Type 0
IsLongInTables abbrevs s p = (u : ℕ) × (inner : ℕ) × (u < length s.links.units) × IsLongInTable inner (drop (unit_at s.links u).head.table abbrevs) × (p ≡ (unit_at s.links u).head.table + inner)

-- a number of the entries of a unit
abbrev pub IsLongInEntries : Reading → ℕ → Type 0
IsLongInEntries s p = (u : ℕ) × (u < length s.links.units) × IsLongInUnit (unit_at s.links u) p

-- a number in an expression of an entry
pub record IsLongInExpressions (s : Reading) (p : ℕ) : Type 0 where
  pub u : ℕ
  pub known : u < length s.links.units
  pub number : ℕ
  pub span : Span
  pub stands : IsExprAt (unit_at s.links u).forest number span
  pub inner : ℕ
  pub long : IsLongInExpression true (bytes_in (unit_at s.links u).forest.section span) inner
  pub place : p ≡ span.at + inner

-- a number of .debug_info
abbrev pub IsLongInInfo : Reading → ℕ → Type 0
IsLongInInfo s p = IsLongInEntries s p ⊎ IsLongInExpressions s p

-- a number of the lists of a kind, with view pairs
abbrev pub IsLongInSection : Classes → Reading → ListKind → ℕ → Type 0
IsLongInSection classes s kind p = IsLongInLists classes s kind p ⊎ ((kind ≡ Locations) × IsLongInViews s p)

-- a number of the file, of which this is read
abbrev pub IsLongIn : Classes → List ℕ → Reading → ℕ → Type 0
IsLongIn classes file s p =
    HoldsIn file abbrev_name (IsLongInTables (debug_abbrev file) s) p
    ⊎ (HoldsIn file info_name (IsLongInInfo s) p
    ⊎ ((kind : ListKind) × HoldsIn file (lists_name kind) (IsLongInSection classes s kind) p))

-- a number of the file
abbrev pub IsLongNumber : Classes → List ℕ → ℕ → Type 0
IsLongNumber classes file p = (s : Reading) × IsReading file s × IsLongIn classes file s p
