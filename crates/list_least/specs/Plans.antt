-- The entries that are chosen for a list.
use Rattle.std.specs.Prelude.{◌≡◌, ◌≤◌, ◌+◌, ◌*◌, ℕ, List, [], ◌∷◌, length, if◌then◌else◌, slice_index_or, Some, false}
use Rattle.list_model.specs.declared.context.Context.{Context}
use Rattle.list_model.specs.declared.item.Item.{Item}
use Rattle.list_model.specs.declared.entry.ListKind.{ListKind}
use Rattle.list_model.specs.declared.entry.ListKind.TheVariants.{Locations}
use Rattle.list_model.specs.Entries.{Entry, code_of}
use Rattle.list_model.specs.Items.{Bounds, GiveFrom}
use Rattle.list_model.specs.Items.Bounds.{between, elsewhere}
use Rattle.list_model.specs.Costs.{entry_bytes}
use Rattle.list_least.specs.Shortest.{FitOperands}
use Rattle.list_least.specs.declared.pick.Pick.{Pick}

-- what an item covers
abbrev pub bounds_of : Item → Bounds
bounds_of item = if item.whole then elsewhere else between item.start item.end

-- the bytes of entries without padding
abbrev pub entries_bytes : List Entry → ℕ
entries_bytes [] = 0
entries_bytes (entry ∷ entries) = entry_bytes entry.kind entry.a entry.b + entries_bytes entries

-- what is picked is this entry, which some bytes spell
pub record IsPick (list : ListKind) (pick : Pick) (entry : Entry) : Type 0 where
  pub code : code_of list entry.kind ≡ Some pick.code
  pub a : pick.a ≡ entry.a
  pub b : pick.b ≡ entry.b
  pub operands : FitOperands entry.kind entry.a entry.b

-- what is picked are these entries
abbrev pub ArePicks : ListKind → List Pick → List Entry → Type 0
ArePicks list [] [] = Unit {0}
ArePicks list (pick ∷ picks) (entry ∷ entries) = IsPick list pick entry × ArePicks list picks entries
ArePicks list _ _ = ⊥

-- a plan for a list with these items: entries that give them, at most two for each, which with the end have no more bytes than the
-- size
pub record IsPlanned (list : ListKind) (addr : List ℕ) (context : Context) (items : List Bounds) (picks : List Pick) (size : ℕ) : Type 0 where
  pub entries : List Entry
  pub picked : ArePicks list picks entries
  pub gives : GiveFrom addr context context.base entries items
  pub bytes : entries_bytes entries + 1 ≤ size
  pub few : length entries ≤ 2 * length items

-- an item that a list of a kind can have: default locations stand in location lists alone
abbrev pub IsItemOf : ListKind → Bounds → Type 0
IsItemOf list elsewhere = list ≡ Locations
IsItemOf list (between start end) = Unit {0}

-- the item with a number, from 0
abbrev pub item_at : List Item → ℕ → Item
item_at items i = slice_index_or items i (record { start = 0; end = 0; whole = false; expr = record { at = 0; len = 0 } })
