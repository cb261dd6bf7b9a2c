-- The layout of a unit that is written anew: how many bytes each of its slots has, and each of those of the location lists that it owns
-- (DWARF 5 sections 2.5.1.1 to 2.5.1.7, 2.6.2, 7.5.5 and 7.6).
use Rattle.std.specs.Prelude.{◌≡◌, ◌≤◌, ◌<◌, ◌+◌, ◌*◌, ◌^◌, ◌++◌, ℕ, suc, List, [], length, map, slice_index, slice_index_or}
use Rattle.std.specs.List.{AllZip}
use Rattle.dw_base.specs.declared.fault.Reach.TheVariants.{Narrow}
use Rattle.leb_codec.specs.Layout.{SlotRow, row_at, IsLayout, IsLeastLayout, AcceptsLayout, HasFirstRanks}
use Rattle.slot_layout.specs.Rows.{IsTight, form_of}
use Rattle.expr_ops.specs.Expressions.{Operation}
use Rattle.expr_ops.specs.Slots.{Aim}
use Rattle.expr_ops.specs.Slots.Aim.{Place, Length}
use Rattle.abbrev_tables.specs.declared.decl.Spec.{Spec}
use Rattle.abbrev_tables.specs.Listings.{Listing}
use Rattle.entry_arena.specs.Arena.{Arena, chain_end_at, IsEntryAt}
use Rattle.entry_arena.specs.Operations.{HeldOps}
use Rattle.entry_arena.specs.Order.{IsInOrder}
use Rattle.entry_read.specs.Expressions.{HasOperations}
use Rattle.entry_read.specs.Slots.{aims_of, aims_before, aim_at, meaning_at, operations_in, IsRowOf}
use Rattle.entry_read.specs.Units.{HeadAndForest}
use Rattle.unit_write.specs.declared.slots.ListSlot.{ListSlot}
use Rattle.unit_write.specs.declared.slots.ListSlot.TheVariants.{Length as ListLength, Place as ListPlace}
use Rattle.unit_write.specs.declared.slots.Spot.{Spot}
use Rattle.unit_write.specs.declared.slots.Spot.TheVariants.{Entry as TheEntry, End as TheEnd, Nothing as NoSpot}
use Rattle.unit_write.specs.Lens.{AreLensUnder}
use Rattle.unit_write.specs.Moved.{IsPlacedAt, NewValues, lens_anew}
use Rattle.unit_write.specs.NewExpressions.{AreWrittenShortest, operations_anew}
use Rattle.unit_write.specs.Values.{renewed}

-- an entry, or a code 0 that ends a chain, stands at a place, each by its number among those that are held
abbrev pub IsSpotAt : Arena → Spot → ℕ → Type 0
IsSpotAt f (TheEntry id) place = IsEntryAt f id place
IsSpotAt f (TheEnd number) place = (number < length f.ends) × ((chain_end_at f.ends number).at ≡ place)
IsSpotAt f NoSpot place = ⊥

-- its place in a list of the places of all entries, or of all codes 0
abbrev pub spot_place : List ℕ → List ℕ → Spot → ℕ
spot_place entries ends (TheEntry id) = slice_index entries id
spot_place entries ends (TheEnd number) = slice_index ends number
spot_place entries ends NoSpot = 0

-- the one with a number; past the end there is none
abbrev pub spot_at : List Spot → ℕ → Spot
spot_at spots i = slice_index_or spots i NoSpot

-- what the slot of a unit names whose first byte stands at a place; a length names nothing
abbrev pub IsSpotFor : Arena → ℕ → Aim → Spot → Type 0
IsSpotFor f at (Place form n) spot = IsSpotAt f spot (at + n)
IsSpotFor f at (Length fixed count) spot = Unit {0}

-- one for each slot, in their order
abbrev pub AreSpotsOf : HeadAndForest → (ℕ → List Operation) → List Spot → Type 0
AreSpotsOf unit ops spots = AllZip (IsSpotFor unit.forest unit.head.at) (aims_of unit.forest ops) spots

-- what a slot of a list tells is kept; in place of the place that a reference tells it has what stands there
abbrev pub IsListSlotFor : Arena → ℕ → Aim → ListSlot → Type 0
IsListSlotFor f at (Place form n) (ListPlace kind spot) = (form_of kind ≡ form) × IsSpotAt f spot (at + n)
IsListSlotFor f at (Length fixed count) (ListLength size slots) = (size ≡ fixed) × (slots ≡ count)
IsListSlotFor f at _ _ = ⊥

-- The slots of whole expressions of lists, which tell `more`: the slots that a length counts stand directly behind it.
pub record AreListSlots (unit : HeadAndForest) (more : List Aim) (slots : List ListSlot) : Type 0 where
  pub each : AllZip (IsListSlotFor unit.forest unit.head.at) more slots
  pub inside : (j fixed count : ℕ) → j < length more → aim_at more j ≡ Length fixed count → suc j + count ≤ length more
  pub small : (j fixed count : ℕ) → j < length more → aim_at more j ≡ Length fixed count → fixed < 2 ^ 31

-- what a slot of a list names
abbrev pub list_spot : ListSlot → Spot
list_spot (ListPlace kind spot) = spot
list_spot (ListLength fixed count) = NoSpot

-- what the slots of a unit and of lists name
abbrev pub all_spots : List Spot → List ListSlot → List Spot
all_spots spots lists = spots ++ map list_spot lists

-- The rows are those of the unit's slots and of the lists': there are as many, and whatever sizes the slots have and wherever the unit
-- stands, the number of each is the place of what it names, or the length of the expression.
pub record AreSlots (unit : HeadAndForest) (table : Listing) (columns : List Spec) (numbers : List ℕ) (ops : ℕ → List Operation) (more : List Aim) (spots : List Spot) (rows : List SlotRow) : Type 0 where
  pub count : length rows ≡ length (aims_of unit.forest ops ++ more)
  pub each : (sizes lens : List ℕ) (start : ℕ) (entries ends : List ℕ) (to : ℕ) → length sizes ≡ length rows → AreLensUnder unit.forest ops sizes lens → IsPlacedAt unit table columns numbers lens start entries ends to → (i : ℕ) → i < length rows → IsRowOf unit.forest ops entries sizes start (spot_place entries ends (spot_at spots i)) i (aim_at (aims_of unit.forest ops ++ more) i) (row_at rows i)

-- The slots have the least sizes under which each holds its number, and each size is just what its number needs. The ranks show why they
-- are the least: each step has the first rank by which it is needed.
pub record IsLaidOut (unit : HeadAndForest) (table : Listing) (columns : List Spec) (numbers : List ℕ) (ops : ℕ → List Operation) (more : List Aim) (spots : List Spot) (lens ranks : List ℕ) : Type 0 where
  pub rows : List SlotRow
  pub slots : AreSlots unit table columns numbers ops more spots rows
  pub sizes : List ℕ
  pub layout : IsLayout rows sizes
  pub least : IsLeastLayout rows sizes
  pub tight : IsTight rows sizes
  pub accepted : AcceptsLayout rows sizes ranks
  pub first : HasFirstRanks rows sizes ranks
  pub lens_are : AreLensUnder unit.forest ops sizes lens

-- the number is that of the place of what it names, where the unit begins at `start`, and entries and codes 0 stand at these places
abbrev pub IsSpotPlaced : ℕ → List ℕ → List ℕ → Aim → Spot → Type 0
IsSpotPlaced start entries ends (Place form n) spot = start + n ≡ spot_place entries ends spot
IsSpotPlaced start entries ends (Length fixed count) spot = Unit {0}

-- the aims of a unit's slots with new numbers: one for each value, and one for each operation
abbrev pub aims_anew : Arena → HeldOps → List ℕ → List ℕ → List Aim
aims_anew f ops held op_numbers = aims_before (λ (k : ℕ). renewed (slice_index held k) [] (meaning_at f k)) (operations_anew f ops op_numbers) (length f.values)

-- each of them has
abbrev pub AreSpotNumbers : Arena → HeldOps → List ℕ → List ℕ → List Spot → ℕ → List ℕ → List ℕ → Type 0
AreSpotNumbers f ops held op_numbers spots start entries ends = AllZip (IsSpotPlaced start entries ends) (aims_anew f ops held op_numbers) spots

-- A law: in such a layout each slot has as many bytes as its number needs.
abbrev pub LayoutsHold : Type 0
LayoutsHold =
    (unit : HeadAndForest) (table : Listing) (columns : List Spec) (numbers : List ℕ) (held : HeldOps) (anew : NewValues) (op_numbers : List ℕ) (more : List Aim) (spots : List Spot) (lists : List ListSlot) (lens ranks : List ℕ) (start : ℕ) (entries ends : List ℕ) (to : ℕ) → HasOperations Narrow unit.forest held → AreSpotsOf unit (operations_in unit.forest held) spots → length anew.held ≡ length unit.forest.values → length anew.ends ≡ length unit.forest.values → IsLaidOut unit table columns numbers (operations_in unit.forest held) more (all_spots spots lists) lens ranks → IsPlacedAt unit table columns numbers lens start entries ends to → AreSpotNumbers unit.forest held anew.held op_numbers spots start entries ends → AreWrittenShortest unit.forest held anew.ends op_numbers anew.expressions → lens_anew unit.forest anew ≡ lens

-- A law: a unit has no more slots than values, and one more for two bytes: each operation with a slot has its opcode beside it.
abbrev pub SlotsFit : Type 0
SlotsFit =
    (f : Arena) (held : HeldOps) → IsInOrder f → HasOperations Narrow f held → 2 * length (aims_of f (operations_in f held)) ≤ 2 * length f.values + length f.section
