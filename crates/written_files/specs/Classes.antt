-- What is least in a file that is written anew for another, by what is read of both; and, apart from that, which of several least
-- choices is written.
use Rattle.std.specs.Prelude.{◌≡◌, ◌<◌, ◌++◌, ℕ, List, length, map, slice_index, Some}
use Rattle.dw_base.specs.declared.classes.Classes.{Classes}
use Rattle.leb_codec.specs.Numbering.{IsLeastNumbering, RiseByFallingUses, AreFirstNumbers}
use Rattle.form_codec.specs.Forms.{Meaning}
use Rattle.abbrev_tables.specs.declared.decl.Spec.{Spec}
use Rattle.abbrev_tables.specs.Listings.{spec_at}
use Rattle.abbrev_tables.specs.LeastColumns.{IsLeastColumn, IsFirstColumn}
use Rattle.list_model.specs.declared.entry.ListKind.{ListKind}
use Rattle.list_model.specs.declared.entry.ListKind.TheVariants.{Ranges, Locations}
use Rattle.list_model.specs.Contributions.{bytes_from}
use Rattle.list_model.specs.Entries.{Entry, AreSaid}
use Rattle.list_model.specs.Items.{Bounds, Give}
use Rattle.list_model.specs.Members.{IsLeastList, IsLeastFrozen}
use Rattle.loc_lists.specs.Locations.{SpellsBehind}
use Rattle.loc_lists.specs.Apart.{StandApart}
use Rattle.value_links.specs.Reading.{ListRead, Linkable, Reading, unit_at, of_kind, lists_of, part_at, list_at, context_at}
use Rattle.value_links.specs.Lists.{IsOwner}
use Rattle.value_links.specs.Whole.{IsReading}
use Rattle.value_links.specs.Values.{entry_of, declaration_of}
use Rattle.value_links.specs.World.{head_and_forest, named_by}
use Rattle.written_files.specs.Kept.{IsKept}
use Rattle.written_files.specs.Uses.{AreUses, column_meanings}

-- both files are read, and this holds of what is read of them
abbrev pub OfReadings : (Reading → Reading → Type 0) → List ℕ → List ℕ → Type 0
OfReadings Holds file written = (r : Reading) × (s : Reading) × IsReading file r × IsReading written s × Holds r s

-- the same, of what values refer to
abbrev pub OfBoth : (Linkable → Linkable → Type 0) → List ℕ → List ℕ → Type 0
OfBoth Holds file written = OfReadings (λ r s. Holds r.links s.links) file written

-- CODES

-- The entries of all units that name the table at a place have codes in the written file by the numbers of their declarations in
-- this table.
abbrev pub HaveCodes : Linkable → Linkable → ℕ → List ℕ → Type 0
HaveCodes r s place numbers =
    (u id : ℕ) → u < length r.units → (unit_at r u).head.table ≡ place → id < length (unit_at r u).forest.entries → (declaration_of (unit_at s u) id).code ≡ slice_index numbers (entry_of (unit_at r u) id).decl

-- The codes of a unit's table take the least bytes: they are a least numbering of its declarations, by how many entries of all
-- units that name the table have each.
pub record HasLeastCodes (r s : Linkable) (u : ℕ) : Type 0 where
  pub uses : List ℕ
  pub used : AreUses (map head_and_forest r.units) (named_by (unit_at r u)) uses
  pub numbers : List ℕ
  pub codes : HaveCodes r s (unit_at r u).head.table numbers
  pub least : IsLeastNumbering uses numbers

-- They are the numbers from 1 on, by falling uses and then by place.
pub record HasOrderedCodes (r s : Linkable) (u : ℕ) : Type 0 where
  pub uses : List ℕ
  pub used : AreUses (map head_and_forest r.units) (named_by (unit_at r u)) uses
  pub numbers : List ℕ
  pub codes : HaveCodes r s (unit_at r u).head.table numbers
  pub first : AreFirstNumbers uses numbers
  pub order : RiseByFallingUses uses numbers

-- this holds of all units
abbrev pub HaveLeastCodes : List ℕ → List ℕ → Type 0
HaveLeastCodes = OfBoth (λ r s. (u : ℕ) → u < length r.units → HasLeastCodes r s u)

abbrev pub HaveOrderedCodes : List ℕ → List ℕ → Type 0
HaveOrderedCodes = OfBoth (λ r s. (u : ℕ) → u < length r.units → HasOrderedCodes r s u)

-- COLUMNS

-- The relation holds of each column of the declaration of an entry, of what its values mean, and of the column in the written file.
-- The values are those of all entries with the declaration, over all units that name its table. Both files' declarations have their
-- columns in one order.
pub record HasColumns (Holds : Spec → List Meaning → Spec → Type 0) (r s : Linkable) (u id : ℕ) : Type 0 where
  pub count : length (declaration_of (unit_at s u) id).columns ≡ length (declaration_of (unit_at r u) id).columns
  pub each : (j : ℕ) → j < length (declaration_of (unit_at r u) id).columns → Holds (spec_at (declaration_of (unit_at r u) id).columns j) (column_meanings (map head_and_forest r.units) (unit_at r u).head.table (entry_of (unit_at r u) id).decl j) (spec_at (declaration_of (unit_at s u) id).columns j)

-- this holds of all entries
abbrev pub HaveColumns : (Spec → List Meaning → Spec → Type 0) → Linkable → Linkable → Type 0
HaveColumns Holds r s = (u id : ℕ) → u < length r.units → id < length (unit_at r u).forest.entries → HasColumns Holds r s u id

-- Each column is in a least form of the classes.
abbrev pub HaveLeastColumns : Classes → List ℕ → List ℕ → Type 0
HaveLeastColumns classes = OfBoth (HaveColumns (IsLeastColumn classes))

-- No least form comes before its own.
abbrev pub HaveFirstColumns : Classes → List ℕ → List ℕ → Type 0
HaveFirstColumns classes = OfBoth (HaveColumns (IsFirstColumn classes))

-- LISTS

-- Bytes are the shortest of the class of a list: where it isn't kept, of those that give its items in the context of the unit that owns it,
-- with any bases; where it is, of those with its own kinds of entries and operands.
pub record AreLeastBytes (classes : Classes) (r : Linkable) (kind : ListKind) (list : ListRead) (bytes : List ℕ) : Type 0 where
  pub live : (¬ IsKept classes r kind list) → (u : ℕ) (entries : List Entry) (bounds : List Bounds) → IsOwner r kind list.at (Some u) → AreSaid kind list.raws entries → Give r.addresses (context_at r u) entries bounds → IsLeastList kind r.addresses (context_at r u) bounds bytes
  pub kept : IsKept classes r kind list → (entries : List Entry) → AreSaid kind list.raws entries → IsLeastFrozen kind entries bytes

-- the bytes of a list, and those without the expressions behind its entries and their lengths
abbrev pub AreBare : ListKind → List ℕ → List ℕ → Type 0
AreBare Ranges bytes bare = bytes ≡ bare
AreBare Locations bytes bare = (locations : List (Entry × List ℕ)) × StandApart SpellsBehind locations bytes bare

-- The list with a number is written in such bytes, which may have expressions between them.
pub record IsLeastWritten (classes : Classes) (kind : ListKind) (r s : Reading) (k : ℕ) : Type 0 where
  pub bytes : List ℕ
  pub rest : List ℕ
  pub stands : bytes_from (of_kind s.links kind).section (part_at (of_kind s.links kind) (list_at (lists_of s kind) k).part) (list_at (lists_of s kind) k).at ≡ bytes ++ rest
  pub bare : List ℕ
  pub without : AreBare kind bytes bare
  pub least : AreLeastBytes classes r.links kind (list_at (lists_of r kind) k) bare

-- all lists are; the one of a kind with a number in the written file is the one with this number in the old file
abbrev pub HaveLeastLists : Classes → List ℕ → List ℕ → Type 0
HaveLeastLists classes = OfReadings (λ r s. (kind : ListKind) (k : ℕ) → k < length (lists_of r kind) → IsLeastWritten classes kind r s k)
