-- Where what is held of a unit stands, and which faults of a unit ask for the units before it.
use Rattle.std.specs.Prelude.{◌≡◌, ◌≢◌, ◌≤◌, ◌<◌, ◌+◌, ℕ, List, length, take, drop}
use Rattle.dw_base.specs.declared.fault.Kind.{Kind}
use Rattle.dw_base.specs.declared.fault.Kind.TheVariants.{Limit}
use Rattle.leb_codec.specs.Leb.{Uleb}
use Rattle.form_codec.specs.declared.value.Value.{Value}
use Rattle.abbrev_tables.specs.Tables.{Declared}
use Rattle.entry_arena.specs.declared.entry.Entry.{Entry}
use Rattle.entry_arena.specs.Arena.{Arena, entry_at, IsEntryAt, IsChainEndAt}
use Rattle.entry_arena.specs.Order.{IsInOrder}
use Rattle.entry_arena.specs.Trees.{SpellsBetween, ValuesBetween, declared_at}
use Rattle.entry_read.specs.declared.head.UnitHead.{UnitHead}
use Rattle.entry_read.specs.declared.unit.Counts.{Counts}
use Rattle.entry_read.specs.Heads.{head_numbered, Tile}
use Rattle.entry_read.specs.Units.{entries_at, end_of, IsUnitHeld}
use Rattle.entry_read.specs.Faults.{FaultUnit}

-- what is held is in order, and stands in the unit after its header
pub record LiesInUnit (head : UnitHead) (f : Arena) : Type 0 where
  pub order : IsInOrder f
  pub entries : (id place : ℕ) → IsEntryAt f id place → (entries_at head ≤ place) × (place < end_of head)
  pub ends : (id place : ℕ) → IsChainEndAt f id place → (entries_at head ≤ place) × (place < end_of head)

-- this holds of a unit that is held
abbrev pub UnitsLie : Type 0
UnitsLie = (info : List ℕ) (head : UnitHead) (ds : List Declared) (f : Arena) → f.section ≡ info → IsUnitHeld info head ds f → LiesInUnit head f

-- only a limit asks how many entries and values stand before a unit
abbrev pub OnlyLimitsCount : Type 0
OnlyLimitsCount =
    (info : List ℕ) (head : UnitHead) (ds : List Declared) (before other : Counts) (kind : Kind) (place : ℕ) → kind ≢ Limit → FaultUnit info head ds before kind place → FaultUnit info head ds other kind place

-- Units have bytes, lie in the section, and each ends no later than a later one begins.
pub record HeadsRise (info : List ℕ) (heads : List UnitHead) : Type 0 where
  pub filled : (i : ℕ) → i < length heads → 0 < (head_numbered heads i).len
  pub inside : (i : ℕ) → i < length heads → (head_numbered heads i).at + (head_numbered heads i).len ≤ length info
  pub rising : (i j : ℕ) → i < j → j < length heads → (head_numbered heads i).at + (head_numbered heads i).len ≤ (head_numbered heads j).at

-- this holds of units that tile a section
abbrev pub UnitsRise : Type 0
UnitsRise = (info : List ℕ) (heads : List UnitHead) → Tile info heads → HeadsRise info heads

-- Each value is one of an entry. An entry has as many values as its declaration has columns, and they follow those of the entry
-- before it; the first entry's come first, and the last entry's last.
pub record HaveOwners (ds : List Declared) (f : Arena) : Type 0 where
  pub owned : (k : ℕ) → k < length f.values → (id : ℕ) × (id < length f.entries) × ((entry_at f.entries id).first ≤ k) × (k < (entry_at f.entries id).first + (entry_at f.entries id).count)
  pub inside : (id : ℕ) → id < length f.entries → (entry_at f.entries id).first + (entry_at f.entries id).count ≤ length f.values
  pub declared : (id : ℕ) → id < length f.entries → (entry_at f.entries id).decl < length ds
  pub counted : (id : ℕ) → id < length f.entries → (entry_at f.entries id).count ≡ length (declared_at ds (entry_at f.entries id).decl).columns
  pub first : (entry_at f.entries 0).first ≡ 0
  pub adjacent : (id : ℕ) → id + 1 < length f.entries → (entry_at f.entries (id + 1)).first ≡ (entry_at f.entries id).first + (entry_at f.entries id).count
  pub last : (id : ℕ) → id + 1 ≡ length f.entries → (entry_at f.entries id).first + (entry_at f.entries id).count ≡ length f.values

-- this holds of a unit that is held
abbrev pub ValuesBelong : Type 0
ValuesBelong = (info : List ℕ) (head : UnitHead) (ds : List Declared) (f : Arena) → f.section ≡ info → IsUnitHeld info head ds f → HaveOwners ds f

-- The value of a column of an entry begins at a place: the code of the entry and the values before it stand there, up to that
-- place (DWARF 5 section 7.5.2). Columns count from 0, and `values` are those of all entries.
pub record StandsAtColumn (section : List ℕ) (ds : List Declared) (values : List Value) (e : Entry) (column place : ℕ) : Type 0 where
  pub values_at : ℕ
  pub coded : SpellsBetween (Uleb ((declared_at ds e.decl).code)) section e.at values_at
  pub valued : ValuesBetween section (take column ((declared_at ds e.decl).columns)) (take column (take e.count (drop e.first values))) values_at place
