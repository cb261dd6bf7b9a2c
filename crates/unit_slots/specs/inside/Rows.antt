-- The rows of the slots of a unit.
use Rattle.std.specs.Prelude.{◌≡◌, ◌≤◌, ◌<◌, ◌+◌, ◌^◌, ◌++◌, ◌⊎◌, ℕ, suc, List, length, map, sum, take, slice_index}
use Rattle.leb_codec.specs.Layout.{row_at}
use Rattle.slot_layout.specs.declared.slots.Slot.{Slot}
use Rattle.slot_layout.specs.Rows.{row_of, rows_of}
use Rattle.expr_ops.specs.Expressions.{Operation}
use Rattle.expr_ops.specs.Slots.{Aim}
use Rattle.expr_ops.specs.Slots.Aim.{Place, Length}
use Rattle.entry_arena.specs.declared.entry.Entry.{Entry}
use Rattle.entry_arena.specs.declared.entry.Target.{Target}
use Rattle.entry_arena.specs.Arena.{Arena}
use Rattle.entry_read.specs.Slots.{aim_at, IsRowOf}
use Rattle.entry_read.specs.Units.{HeadAndForest}
use Rattle.written_files.specs.Layouts.{place_told}
use Rattle.value_links.specs.Linked.{IsTargetAt}
use Rattle.unit_slots.specs.declared.spots.Spots.{Spots}
use Rattle.unit_slots.specs.inside.Own.{AreStarts}

-- where the entries of a unit stand
abbrev pub entry_places : Arena → List ℕ
entry_places f = map (λ (e : Entry). e.at) f.entries

-- the sums of the first sizes: none, one, and so on up to all
pub record AreSumsBefore (sizes sums : List ℕ) : Type 0 where
  pub counted : length sums ≡ suc (length sizes)
  pub each : (k : ℕ) → k ≤ length sizes → slice_index sums k ≡ sum (take k sizes)

-- how many slots stand before each entry, and how many bytes the first ones have
pub record AreSpots (unit : HeadAndForest) (ops : ℕ → List Operation) (own starts totals : List ℕ) : Type 0 where
  pub begin : AreStarts unit ops own starts
  pub sums : AreSumsBefore own totals

abbrev pub HasSpots : HeadAndForest → (ℕ → List Operation) → List ℕ → Spots → Type 0
HasSpots unit ops own spots = AreSpots unit ops own spots.starts.items spots.sums.items

-- an entry of the unit or a code 0 that ends a chain stands so many bytes behind the unit's first one
abbrev pub IsThere : HeadAndForest → ℕ → Type 0
IsThere unit n = (target : Target) × IsTargetAt unit.forest target (unit.head.at + n)

-- a slot that tells a place tells that of such a thing
abbrev pub NamesThere : HeadAndForest → Aim → Type 0
NamesThere unit (Place form n) = IsThere unit n
NamesThere unit (Length fixed count) = Unit {0}

-- The slot with a number is that of a unit whose own slots have these sizes, and tells this. Others may follow.
pub record IsRowFor (unit : HeadAndForest) (ops : ℕ → List Operation) (own : List ℕ) (number : ℕ) (aim : Aim) (slot : Slot) : Type 0 where
  pub row : (listed : List ℕ) → IsRowOf unit.forest ops (entry_places unit.forest) (own ++ listed) unit.head.at (place_told unit.head.at aim) number aim (row_of slot)
  pub small : slot.fixed < 2 ^ 34

-- The slots are those of a unit with these sizes, in their order, and tell this. Others may follow.
pub record AreRows (unit : HeadAndForest) (ops : ℕ → List Operation) (own : List ℕ) (aims : List Aim) (slots : List Slot) : Type 0 where
  pub counted : length slots ≡ length aims
  pub rows : (listed : List ℕ) (i : ℕ) → i < length slots → IsRowOf unit.forest ops (entry_places unit.forest) (own ++ listed) unit.head.at (place_told unit.head.at (aim_at aims i)) i (aim_at aims i) (row_at (rows_of slots) i)
  pub order : (i : ℕ) → i < length slots → (row_at (rows_of slots) i).from ≤ (row_at (rows_of slots) i).to
  pub inside : (i : ℕ) → i < length slots → ((row_at (rows_of slots) i).to ≤ length own) ⊎ ((row_at (rows_of slots) i).to ≤ length slots)
  pub small : (i : ℕ) → i < length slots → (row_at (rows_of slots) i).fixed < 2 ^ 34
