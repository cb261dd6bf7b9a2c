-- Where the abbreviation tables of a file that is written anew for another aren't as a writer makes them, or its entries have other
-- declarations than their own (DWARF 5 sections 7.5.2 and 7.5.3). Both files mean the same, so that the unit with a number and its entry with
-- a number in the written file are those with these numbers in the old one. The table at a place of the old file is named by its units; of
-- the written tables that these units name the one that stands first is due, and those behind it are further ones. Places of tables and
-- declarations count from the first byte of .debug_abbrev, those of entries from the first byte of .debug_info.
use Rattle.std.specs.Prelude.{◌≡◌, ◌≢◌, ◌≤◌, ◌<◌, ◌+◌, ◌⊎◌, ℕ, zero, suc, List, [], ◌∷◌, length, map, slice_index, Bool}
use Rattle.std.specs.List.Sorted.{IsPermutation}
use Rattle.dw_base.specs.declared.classes.Classes.{Classes}
use Rattle.leb_codec.specs.Numbering.{IsLeastNumbering}
use Rattle.form_codec.specs.Columns.{IsLeastForm}
use Rattle.abbrev_tables.specs.declared.decl.Spec.{Spec}
use Rattle.abbrev_tables.specs.Listings.{decl_at, spec_at}
use Rattle.abbrev_tables.specs.Tables.{Declared, codes_of}
use Rattle.entry_arena.specs.Trees.{declared_at}
use Rattle.entry_read.specs.Units.{declarations_of}
use Rattle.value_links.specs.Reading.{Linkable, unit_at}
use Rattle.written_files.specs.Uses.{AreUses, column_meanings}
use Rattle.value_links.specs.Values.{entry_of}
use Rattle.value_links.specs.World.{head_and_forest, named_by}

-- TABLES AND THEIR USES

-- the place of the table that a unit names
abbrev pub place_of : Linkable → ℕ → ℕ
place_of r u = (unit_at r u).head.table

-- The unit names the old table at a place, and of the written tables that units of this old table name none stands before its own, which is due.
abbrev pub IsDueNamer : Linkable → Linkable → ℕ → ℕ → Type 0
IsDueNamer r s place u = (u < length r.units) × (place_of r u ≡ place) × ((other : ℕ) → other < length r.units → place_of r other ≡ place → place_of s u ≤ place_of s other)

-- The old table at a place is written at another, which is due for it.
abbrev pub IsWrittenAt : Linkable → Linkable → ℕ → ℕ → Type 0
IsWrittenAt r s old new = (u : ℕ) × IsDueNamer r s old u × (place_of s u ≡ new)

-- how often each declaration of the table that a unit names is used, by entries of all units that name it
abbrev pub AreUsesOf : Linkable → ℕ → List ℕ → Type 0
AreUsesOf r u uses = AreUses (map head_and_forest r.units) (named_by (unit_at r u)) uses

-- what the declarations of two files have in common: tag, whether there are children, and the names of columns
pub record Outline : Type 0 where
  pub tag : ℕ
  pub children : Bool
  pub names : List ℕ

abbrev pub outline_of : Declared → Outline
outline_of d = record { tag = d.tag; children = d.children; names = map (λ (column : Spec). column.name) d.columns }

abbrev pub outlines_of : List Declared → List Outline
outlines_of ds = map outline_of ds

-- those declarations that have uses
abbrev pub used_among : List Declared → List ℕ → List Declared
used_among (d ∷ ds) (zero ∷ uses) = used_among ds uses
used_among (d ∷ ds) (suc n ∷ uses) = d ∷ used_among ds uses
used_among _ _ = []

-- WHAT IS AMISS WITH A TABLE

-- it is the written table of an old one, and stands before that of another one which comes earlier in the old file
abbrev pub IsTooEarly : Linkable → Linkable → ℕ → Type 0
IsTooEarly r s q = (old : ℕ) × (before : ℕ) × (other : ℕ) × IsWrittenAt r s old q × IsWrittenAt r s before other × (before < old) × (q < other)

-- it begins inside another
abbrev pub IsInside : Linkable → ℕ → Type 0
IsInside s q = (u : ℕ) × (v : ℕ) × (u < length s.units) × (v < length s.units) × (place_of s v ≡ q) × (place_of s u < q) × (q < (unit_at s u).table.end)

-- it is a further one: a unit names it whose old table is written elsewhere
abbrev pub IsFurther : Linkable → Linkable → ℕ → Type 0
IsFurther r s q = (u : ℕ) × (place : ℕ) × (u < length s.units) × (place_of s u ≡ q) × IsWrittenAt r s (place_of r u) place × (place ≢ q)

-- it has a declaration that no entry has
abbrev pub HasUnused : Linkable → ℕ → Type 0
HasUnused s q = (u : ℕ) × (uses : List ℕ) × (i : ℕ) × (u < length s.units) × (place_of s u ≡ q) × AreUsesOf s u uses × (i < length uses) × (slice_index uses i ≡ 0)

-- Its declarations don't correspond one to one to those of an old table that have uses.
pub record HasOthers (r s : Linkable) (q : ℕ) : Type 0 where
  pub u : ℕ
  pub namer : IsDueNamer r s (place_of r u) u
  pub place : place_of s u ≡ q
  pub uses : List ℕ
  pub used : AreUsesOf r u uses
  pub others : ¬ IsPermutation (outlines_of (used_among (declarations_of (unit_at r u).table) uses)) (outlines_of (declarations_of (unit_at s u).table))

-- its codes take more bytes than others would, in the declarations and in the entries
pub record HasMoreBytes (s : Linkable) (q : ℕ) : Type 0 where
  pub u : ℕ
  pub known : u < length s.units
  pub place : place_of s u ≡ q
  pub uses : List ℕ
  pub used : AreUsesOf s u uses
  pub more : ¬ IsLeastNumbering uses (codes_of (declarations_of (unit_at s u).table))

abbrev pub IsUntidyTable : Linkable → Linkable → ℕ → Type 0
IsUntidyTable r s q = IsTooEarly r s q ⊎ (IsInside s q ⊎ (IsFurther r s q ⊎ (HasUnused s q ⊎ (HasOthers r s q ⊎ HasMoreBytes s q))))

-- BYTES OF NO TABLE, AND MISSING TABLES

-- a byte of the section that no table has
abbrev pub IsLoose : List ℕ → Linkable → ℕ → Type 0
IsLoose section s p = (p < length section) × ((u : ℕ) → u < length s.units → place_of s u ≤ p → p < (unit_at s u).table.end → ⊥)

-- two old tables are written as one
abbrev pub IsMissing : Linkable → Linkable → Type 0
IsMissing r s = (old : ℕ) × (other : ℕ) × (new : ℕ) × (old ≢ other) × IsWrittenAt r s old new × IsWrittenAt r s other new

-- WHAT IS AMISS WITH A DECLARATION

-- its code isn't above that of the declaration before it
abbrev pub IsFallen : List Declared → ℕ → Type 0
IsFallen ds k = (j : ℕ) × (j + 1 ≡ k) × ((declared_at ds k).code ≤ (declared_at ds j).code)

-- one of its columns isn't in a least form of the classes for the values that it has in entries of all units that name the table
abbrev pub HasLongColumn : Classes → Linkable → ℕ → ℕ → Type 0
HasLongColumn classes s u k =
    (j : ℕ) × (j < length (declared_at (declarations_of (unit_at s u).table) k).columns) × (¬ IsLeastForm classes (spec_at (declared_at (declarations_of (unit_at s u).table) k).columns j).name (column_meanings (map head_and_forest s.units) (place_of s u) k j) (spec_at (declared_at (declarations_of (unit_at s u).table) k).columns j).form (spec_at (declared_at (declarations_of (unit_at s u).table) k).columns j).constant)

abbrev pub IsUntidyDeclaration : Classes → Linkable → ℕ → Type 0
IsUntidyDeclaration classes s p =
    (u : ℕ) × (k : ℕ) × (u < length s.units) × (k < length (unit_at s u).table.decls) × (p ≡ (decl_at (unit_at s u).table.decls k).at) × (IsFallen (declarations_of (unit_at s u).table) k ⊎ HasLongColumn classes s u k)

-- WHAT IS AMISS WITH AN ENTRY

-- an entry stands before another in .debug_info
abbrev pub IsEarlier : ℕ → ℕ → ℕ → ℕ → Type 0
IsEarlier v id u other = (v < u) ⊎ ((v ≡ u) × (id < other))

-- the number of the declaration of an entry
abbrev pub number_of : Linkable → ℕ → ℕ → ℕ
number_of r u id = (entry_of (unit_at r u) id).decl

-- Of two entries under one old table, the declarations are the same in exactly one of the files. It is said of the later one.
pub record IsUntidyEntry (r s : Linkable) (p : ℕ) : Type 0 where
  pub u : ℕ
  pub id : ℕ
  pub v : ℕ
  pub other : ℕ
  pub known : u < length s.units
  pub inside : id < length (unit_at s u).forest.entries
  pub known_other : v < length s.units
  pub inside_other : other < length (unit_at s v).forest.entries
  pub earlier : IsEarlier v other u id
  pub table : place_of r v ≡ place_of r u
  pub apart : ((number_of r v other ≡ number_of r u id) × (number_of s v other ≢ number_of s u id)) ⊎ ((number_of r v other ≢ number_of r u id) × (number_of s v other ≡ number_of s u id))
  pub place : p ≡ (entry_of (unit_at s u) id).at
