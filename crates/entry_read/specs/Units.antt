-- A unit of .debug_info (DWARF 5 section 7.5): its header, and its entries, and then nothing but bytes 0. Places count
-- from the section's first byte.
use Rattle.std.specs.Prelude.{◌≡◌, ◌≤◌, ◌<◌, ◌+◌, ◌^◌, ℕ, List, [], slice_index}
use Rattle.abbrev_tables.specs.Tables.{Declared}
use Rattle.abbrev_tables.specs.Listings.{Listing, declarations_in, IsTableAt}
use Rattle.form_codec.specs.declared.value.Value.{Value}
use Rattle.entry_arena.specs.Arena.{Arena, with_values}
use Rattle.entry_arena.specs.Trees.{Listed, listed_to, bytes_between, nothing_from, IsForest}
use Rattle.entry_arena.specs.Walks.{Item, Walks}
use Rattle.entry_read.specs.declared.head.UnitHead.{UnitHead}
use Rattle.entry_read.specs.declared.unit.Counts.{Counts}
use Rattle.entry_read.specs.Heads.{header_size}

-- a unit as callers see it
pub record HeadAndForest : Type 0 where
  pub head : UnitHead
  pub forest : Arena

-- the unit with other values
abbrev pub unit_with : HeadAndForest → List Value → HeadAndForest
unit_with unit values = record { head = unit.head; forest = with_values unit.forest values }

-- where the unit's entries begin, and where it ends
abbrev pub entries_at : UnitHead → ℕ
entries_at head = head.at + header_size head.kind

abbrev pub end_of : UnitHead → ℕ
end_of head = head.at + head.len

-- the declarations that a unit's entries may name
abbrev pub declarations_of : Listing → List Declared
declarations_of t = declarations_in t.specs t.decls

-- a table that stands somewhere in some section
abbrev pub IsTable : Listing → Type 0
IsTable t = (section : List ℕ) × (at : ℕ) × IsTableAt section at t

-- The unit's entries are one tree, and only bytes 0 follow it up to the unit's end.
pub record IsUnit (info : List ℕ) (head : UnitHead) (ds : List Declared) (forest : Listed) : Type 0 where
  pub tree : IsForest info ds (entries_at head) forest
  pub inside : forest.place ≤ end_of head
  pub padded : (k : ℕ) → forest.place ≤ k → k < end_of head → slice_index info k ≡ 0

-- what is held of a section is a unit of it
abbrev pub IsUnitHeld : List ℕ → UnitHead → List Declared → Arena → Type 0
IsUnitHeld info head ds held = (place : ℕ) × IsUnit info head ds (listed_to held place)

-- the most entries and the most values of all units together
abbrev pub entry_limit : ℕ
entry_limit = 2 ^ 24

abbrev pub value_limit : ℕ
value_limit = 2 ^ 26

-- So many entries and values keep the limits, with those of the units before.
pub record IsWithin (before : Counts) (count values_count : ℕ) : Type 0 where
  pub entries : before.entries + count ≤ entry_limit
  pub values : before.values + values_count ≤ value_limit

-- The front of a unit's entries, up to a place in the unit. The children of the entries in `chains` don't end yet.
pub record IsFront (info : List ℕ) (head : UnitHead) (ds : List Declared) (now : Listed) (chains : List ℕ) : Type 0 where
  pub items : List Item
  pub walked : Walks info ds (nothing_from (entries_at head)) [] items now chains
  pub inside : now.place ≤ end_of head

-- what follows in the unit
abbrev pub rest_of : List ℕ → UnitHead → ℕ → List ℕ
rest_of info head place = bytes_between info place (end_of head)
