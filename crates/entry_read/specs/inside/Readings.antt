-- What the private parts of the reader need and give; nothing here is a definition of the format.
use Rattle.std.specs.Prelude.{◌≡◌, ◌≤◌, ◌⊎◌, ℕ, List, [], ◌∷◌, ◌++◌, length}
use Rattle.dw_base.specs.declared.fault.Kind.{Kind}
use Rattle.form_codec.specs.declared.value.Value.{Value}
use Rattle.form_codec.specs.Faults.{FaultValue}
use Rattle.abbrev_tables.specs.declared.decl.Spec.{Spec}
use Rattle.abbrev_tables.specs.Tables.{Declared}
use Rattle.entry_arena.specs.Arena.{Arena}
use Rattle.entry_arena.specs.Trees.{bytes_between, ValuesBetween, nothing_from, listed_to}
use Rattle.entry_arena.specs.Walks.{Item, Walks}
use Rattle.entry_read.specs.declared.head.UnitHead.{UnitHead}
use Rattle.entry_read.specs.declared.unit.Counts.{Counts}
use Rattle.entry_read.specs.Units.{IsFront, IsWithin}

-- more values at the end, and all else as it is
abbrev pub with_values : Arena → List Value → Arena
with_values f values = record { section = f.section; entries = f.entries; values = f.values ++ values; ends = f.ends }

-- the values of columns were appended, which stand from a place up to another
pub record AddsValues (info : List ℕ) (columns : List Spec) (old : Arena) (from : ℕ) (new : Arena) (to : ℕ) : Type 0 where
  pub values : List Value
  pub valued : ValuesBetween info columns values from to
  pub held : new ≡ with_values old values

-- Some of the values of columns stand from a place on, and what follows at another place up to an end has the fault of a
-- value of the next column.
pub record FaultOfColumns (info : List ℕ) (end : ℕ) (columns : List Spec) (from : ℕ) (kind : Kind) (place : ℕ) : Type 0 where
  pub before : List Spec
  pub column : Spec
  pub after : List Spec
  pub parts : columns ≡ before ++ column ∷ after
  pub values : List Value
  pub valued : ValuesBetween info before values from place
  pub inside : place ≤ end
  pub fault : FaultValue column.name column.form column.constant kind (bytes_between info place end)

-- what a walk lists up to a place is held
pub record IsWalked (info : List ℕ) (ds : List Declared) (held : Arena) (chains : List ℕ) (at : ℕ) : Type 0 where
  pub section : held.section ≡ info
  pub start : ℕ
  pub items : List Item
  pub walked : Walks info ds (nothing_from start) [] items (listed_to held at) chains

-- a walk came no further than to a place
abbrev pub IsWalkedBy : List ℕ → Arena → ℕ → Type 0
IsWalkedBy info held place = (ds : List Declared) × (chains : List ℕ) × (at : ℕ) × (at ≤ place) × IsWalked info ds held chains at

-- The front of a unit's entries is held, up to a place, and keeps the limits.
pub record HasFront (info : List ℕ) (head : UnitHead) (ds : List Declared) (before : Counts) (held : Arena) (chains : List ℕ) (at : ℕ) : Type 0 where
  pub section : held.section ≡ info
  pub front : IsFront info head ds (listed_to held at) chains
  pub few : length chains ≤ length held.entries
  pub first : (held.entries ≡ []) ⊎ IsWithin before (length held.entries) (length held.values)
