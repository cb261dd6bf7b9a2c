-- A unit that is written anew behind other bytes of .debug_info.
use Rattle.std.specs.Prelude.{◌≡◌, ◌≢◌, ◌<◌, ◌+◌, ◌-◌, ℕ, List, length, map, slice_index}
use Rattle.std.specs.List.{All, AllZip}
use Rattle.form_codec.specs.declared.value.Value.{Value}
use Rattle.form_codec.specs.Values.{meant_in}
use Rattle.abbrev_tables.specs.declared.decl.Spec.{Spec}
use Rattle.abbrev_tables.specs.Tables.{Declared}
use Rattle.abbrev_tables.specs.Listings.{Listing}
use Rattle.entry_arena.specs.declared.entry.Entry.{Entry}
use Rattle.entry_arena.specs.declared.entry.ChainEnd.{ChainEnd}
use Rattle.entry_arena.specs.Arena.{Arena, entry_at, value_at}
use Rattle.entry_arena.specs.Trees.{Listed}
use Rattle.entry_arena.specs.Walks.{IsWhole}
use Rattle.entry_read.specs.declared.head.UnitHead.{UnitHead}
use Rattle.entry_read.specs.Heads.{IsHead}
use Rattle.entry_read.specs.Units.{HeadAndForest, entries_at, declarations_of, IsUnit}
use Rattle.entry_read.specs.Short.{StandsShort, EndsShort}
use Rattle.unit_write.specs.declared.write.NewNumbers.{NewNumbers}
use Rattle.unit_write.specs.Taken.{IsHeldFor}
use Rattle.unit_write.specs.Values.{renewed}
use Rattle.unit_write.specs.NewExpressions.{lens_of, made_of, new_lens}
use Rattle.unit_write.specs.Placing.{EntrySize, ArePlaced}

-- an entry is where it was among the entries, with the declaration that has its new number
pub record IsMovedEntry (numbers : List ℕ) (old new : Entry) : Type 0 where
  pub depth : new.depth ≡ old.depth
  pub decl : new.decl ≡ slice_index numbers old.decl - 1
  pub first : new.first ≡ old.first
  pub count : new.count ≡ old.count

-- it ends the children of the same entry
abbrev pub IsMovedEnd : ChainEnd → ChainEnd → Type 0
IsMovedEnd old new = new.entry ≡ old.entry

-- what is written for the values of a unit: for each the number of a reference or a section offset, and where the bytes of an
-- expression end; and these bytes
pub record NewValues : Type 0 where
  pub held : List ℕ
  pub ends : List ℕ
  pub expressions : List ℕ

abbrev pub new_values : NewNumbers → NewValues
new_values new = record { held = new.held.items; ends = new.expressions.ends.items; expressions = new.expressions.bytes.items }

-- how many bytes each value has that is an expression, with its length, or a reference within the unit
abbrev pub lens_anew : Arena → NewValues → List ℕ
lens_anew f anew = new_lens f.section f.values anew.held (lens_of anew.ends)

-- There are as many values. Each means what it meant, but that references and section offsets have these numbers, and expressions
-- these bytes.
pub record AreMovedValues (f : Arena) (anew : NewValues) (section : List ℕ) (new : Listed) : Type 0 where
  pub count : length new.values ≡ length f.values
  pub each : (k : ℕ) → k < length f.values → meant_in section (value_at new.values k) ≡ renewed (slice_index anew.held k) (made_of anew.ends anew.expressions k) (meant_in f.section (value_at f.values k))

-- What is needed of a unit that is to be written: it is held of its section, by the declarations of a table, where some references may
-- be taken as ones within the unit; the declaration of each entry is used; and something can be written for each value in its new
-- column, where expressions and references within the unit are taken to have so many bytes.
pub record IsWritable (unit : HeadAndForest) (table : Listing) (columns : List Spec) (numbers lens : List ℕ) : Type 0 where
  pub head : IsHead unit.forest.section unit.head
  pub held : IsHeldFor unit table
  pub numbered : length numbers ≡ length table.decls
  pub renewed : length columns ≡ length table.specs
  pub used : (id : ℕ) → id < length unit.forest.entries → slice_index numbers (entry_at unit.forest.entries id).decl ≢ 0
  pub sized : (id : ℕ) → id < length unit.forest.entries → (size : ℕ) × EntrySize table columns numbers unit.forest lens id size

-- The places of a unit's entries and codes 0, and where it begins and ends, in a new section. They stand in the order in which they stand
-- in the old one, where these are the values.
pub record IsPlacedAt (unit : HeadAndForest) (table : Listing) (columns : List Spec) (numbers lens : List ℕ) (start : ℕ) (entries ends : List ℕ) (to : ℕ) : Type 0 where
  pub place : ℕ
  pub values : List Value
  pub whole : IsWhole unit.forest.section (declarations_of table) (entries_at unit.head) (record { entries = unit.forest.entries; values = values; ends = unit.forest.ends; place = place })
  pub placed : ArePlaced (EntrySize table columns numbers unit.forest lens) 0 whole.items (start + (entries_at unit.head - unit.head.at)) entries ends to

-- The new head: where the unit stands now, the new place of its table and of its type's entry, and all else as it was.
pub record IsMovedHead (old new : UnitHead) (start end new_table type_offset : ℕ) : Type 0 where
  pub at : new.at ≡ start
  pub len : new.len ≡ end - start
  pub kind : new.kind ≡ old.kind
  pub table : new.table ≡ new_table
  pub extra : new.extra ≡ old.extra
  pub type_at : new.type_at ≡ type_offset

-- The unit stands in the section from a place to its end, and no bytes follow its tree; its entries, values and codes 0 are
-- those of the old unit at their new places, with these numbers. No byte is too many.
pub record IsWrittenAnew (unit : HeadAndForest) (table : Listing) (columns : List Spec) (numbers : List ℕ) (ds : List Declared) (new_table type_at : ℕ) (anew : NewValues) (start : ℕ) (section : List ℕ) : Type 0 where
  pub head : UnitHead
  pub fields : IsMovedHead unit.head head start (length section) new_table type_at
  pub is_head : IsHead section head
  pub forest : Listed
  pub is_unit : IsUnit section head ds forest
  pub ends_there : forest.place ≡ length section
  pub entries : AllZip (IsMovedEntry numbers) unit.forest.entries forest.entries
  pub values : AreMovedValues unit.forest anew section forest
  pub ends : AllZip IsMovedEnd unit.forest.ends forest.ends
  pub short : (id : ℕ) → id < length forest.entries → StandsShort section ds forest.values (entry_at forest.entries id)
  pub ends_short : All (EndsShort section) forest.ends
  pub placed : IsPlacedAt unit table columns numbers (lens_anew unit.forest anew) start (map (λ (e : Entry). e.at) forest.entries) (map (λ (e : ChainEnd). e.at) forest.ends) (length section)
