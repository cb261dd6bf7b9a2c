-- The slots of a unit and of location lists, with their sizes.
use Rattle.std.specs.Prelude.{◌≡◌, ◌≤◌, ◌<◌, ◌+◌, ◌++◌, ◌∷◌, ℕ, List, [], length, drop, slice_index_or, true}
use Rattle.std.specs.List.{All, AllZip}
use Rattle.dw_base.specs.declared.fault.Reach.TheVariants.{Wide}
use Rattle.leb_codec.specs.Leb.{Uleb}
use Rattle.slot_layout.specs.declared.slots.Slot.{Slot}
use Rattle.slot_layout.specs.Rows.{most_slots}
use Rattle.expr_ops.specs.Expressions.{Operation, IsExpression}
use Rattle.expr_ops.specs.Slots.{expression_aims}
use Rattle.list_model.specs.declared.entry.ListKind.TheVariants.{Locations}
use Rattle.list_model.specs.declared.entry.RawEntry.{RawEntry}
use Rattle.loc_lists.specs.Locations.{is_item, items_among, bytes_in}
use Rattle.entry_read.specs.Units.{HeadAndForest}
use Rattle.list_arena.specs.Held.{HeldList}
use Rattle.written_files.specs.Layouts.{all_aims, list_expressions}
use Rattle.value_links.specs.Reading.{Reading}
use Rattle.value_links.specs.World.{World, Holds}
use Rattle.unit_slots.specs.declared.spots.Spots.{Spots}
use Rattle.unit_slots.specs.Standing.{OperandsEnd, AreItemSizes, AreListedSizes, all_sizes}
use Rattle.unit_slots.specs.inside.Added.{Begins, CanHaveSizes}
use Rattle.unit_slots.specs.inside.Rows.{HasSpots, NamesThere, AreRows}

-- The length of the expression of an item of a location list stands behind its operands, and the expression at its span. What its slots
-- tell stands in the unit.
pub record ItemStands (unit : HeadAndForest) (section : List ℕ) (raw : RawEntry) : Type 0 where
  pub end : ℕ
  pub behind : OperandsEnd Locations section raw end
  pub counted : Begins Uleb (drop end section)
  pub within : raw.expr.at + raw.expr.len ≤ length section
  pub operations : List Operation
  pub spelled : IsExpression Wide operations (bytes_in section raw.expr)
  pub named : All (NamesThere unit) (expression_aims operations)

-- each item of a list does
abbrev pub ItemsStand : HeadAndForest → List ℕ → List RawEntry → Type 0
ItemsStand unit section raws = All (λ (raw : RawEntry). is_item raw ≡ true → ItemStands unit section raw) raws

-- There is a row and a size for each slot of a unit, and then for those of expressions of location lists: `own` has the sizes of the former,
-- and `listed` those of the latter.
pub record AreMade (unit : HeadAndForest) (ops : ℕ → List Operation) (own : List ℕ) (lists : List (List Operation)) (listed : List ℕ) (slots : List Slot) (sizes : List ℕ) : Type 0 where
  pub whole : sizes ≡ own ++ listed
  pub rows : AreRows unit ops own (all_aims unit.forest ops lists) slots
  pub can : CanHaveSizes (all_aims unit.forest ops lists) sizes
  pub few : length sizes ≤ most_slots

-- some are made of a unit that has these spots
abbrev pub IsBegun : HeadAndForest → Spots → List Slot → List ℕ → Type 0
IsBegun unit spots slots sizes =
    (ops : ℕ → List Operation) × (own : List ℕ) × (lists : List (List Operation)) × (listed : List ℕ) × HasSpots unit ops own spots × AreMade unit ops own lists listed slots sizes

-- the row and the sizes of expressions, which are these operations, are added to others
abbrev pub AddsMade : HeadAndForest → (ℕ → List Operation) → List ℕ → List (List Operation) → List ℕ → List Slot → List ℕ → List Slot → List ℕ → Type 0
AddsMade unit ops own more added slots sizes new_slots new_sizes =
    (lists : List (List Operation)) (listed : List ℕ) → AreMade unit ops own lists listed slots sizes → AreMade unit ops own (lists ++ more) (listed ++ added) new_slots new_sizes

-- the slots of the expression of an item are added
pub record AddsItem (unit : HeadAndForest) (ops : ℕ → List Operation) (own section : List ℕ) (raw : RawEntry) (slots : List Slot) (sizes : List ℕ) (new_slots : List Slot) (new_sizes : List ℕ) : Type 0 where
  pub operations : List Operation
  pub spelled : IsExpression Wide operations (bytes_in section raw.expr)
  pub added : List ℕ
  pub are : AreItemSizes section raw added
  pub made : AddsMade unit ops own (operations ∷ []) added slots sizes new_slots new_sizes

-- those of the items of some entries are
pub record AddsItems (unit : HeadAndForest) (ops : ℕ → List Operation) (own section : List ℕ) (raws : List RawEntry) (slots : List Slot) (sizes : List ℕ) (new_slots : List Slot) (new_sizes : List ℕ) : Type 0 where
  pub operations : List (List Operation)
  pub spelled : AllZip (λ (os : List Operation) (raw : RawEntry). IsExpression Wide os (bytes_in section raw.expr)) operations (items_among raws)
  pub added : List (List ℕ)
  pub are : AllZip (AreItemSizes section) (items_among raws) added
  pub made : AddsMade unit ops own operations (all_sizes added) slots sizes new_slots new_sizes

-- those of the location lists with these numbers are
pub record AddsLists (world : World) (unit : HeadAndForest) (ops : ℕ → List Operation) (own : List ℕ) (numbers : List ℕ) (slots : List Slot) (sizes : List ℕ) (new_slots : List Slot) (new_sizes : List ℕ) : Type 0 where
  pub operations : List (List Operation)
  pub spelled : (s : Reading) → Holds world.image world s → AllZip (IsExpression Wide) operations (list_expressions s numbers)
  pub added : List ℕ
  pub are : (s : Reading) → Holds world.image world s → AreListedSizes s numbers added
  pub made : AddsMade unit ops own operations added slots sizes new_slots new_sizes

-- the location lists with these numbers are held, and their items stand in a section
abbrev pub ListsStand : World → HeadAndForest → List ℕ → List ℕ → Type 0
ListsStand world unit section numbers = All (λ (k : ℕ). (k < length world.locations) × ((d : HeldList) → ItemsStand unit section (slice_index_or world.locations k d).raw)) numbers
