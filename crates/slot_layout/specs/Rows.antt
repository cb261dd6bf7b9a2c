-- Slots as the rows of the layout's definition.
use Rattle.std.specs.Prelude.{◌≡◌, ◌≤◌, ◌<◌, ◌*◌, ◌^◌, ◌⊎◌, ℕ, List, length, map, slice_index}
use Rattle.slot_layout.specs.declared.slots.SlotKind.{SlotKind}
use Rattle.slot_layout.specs.declared.slots.SlotKind.TheVariants.{Uleb, Call}
use Rattle.slot_layout.specs.declared.slots.Slot.{Slot}
use Rattle.leb_codec.specs.Layout.{SlotForm, uleb, call, SlotRow, row_at, slot_number, need}

abbrev pub form_of : SlotKind → SlotForm
form_of Uleb = uleb
form_of Call = call

abbrev pub row_of : Slot → SlotRow
row_of slot = record { form = form_of slot.kind; fixed = slot.fixed; from = slot.from; to = slot.to }

abbrev pub rows_of : List Slot → List SlotRow
rows_of slots = map row_of slots

-- the most slots that are laid out together: with five bytes for each, and fixed parts below 2^31, each number is below 2^32
abbrev pub most_slots : ℕ
most_slots = 17 * 2 ^ 24

-- each range of slots lies in the list
abbrev pub HasRangesInside : List SlotRow → Type 0
HasRangesInside rows =
    (i : ℕ) → i < length rows → ((row_at rows i).from ≤ (row_at rows i).to) × ((row_at rows i).to ≤ length rows)

-- each fixed part is below 2^31
abbrev pub HasSmallFixed : List SlotRow → Type 0
HasSmallFixed rows = (i : ℕ) → i < length rows → (row_at rows i).fixed < 2 ^ 31

-- Each fixed part is below 2^62. With as many slots, and sizes of 32 bits, each number is below 2^63.
abbrev pub HasFittingFixed : List SlotRow → Type 0
HasFittingFixed rows = (i : ℕ) → i < length rows → (row_at rows i).fixed < 2 ^ 62

-- the sizes that a slot of a file can have: a ULEB with padding may have more than 10 bytes
abbrev pub CanHaveSize : SlotForm → ℕ → Type 0
CanHaveSize uleb size = 1 ≤ size
CanHaveSize call size = (size ≡ 2) ⊎ (size ≡ 4)

-- each slot has a size that a slot of a file can have
pub record CanBeSizes (rows : List SlotRow) (sizes : List ℕ) : Type 0 where
  pub each_slot : length sizes ≡ length rows
  pub sized : (i : ℕ) → i < length rows → CanHaveSize (row_at rows i).form (slice_index sizes i)

-- each slot has just the bytes that its number needs under these sizes
abbrev pub IsTight : List SlotRow → List ℕ → Type 0
IsTight rows sizes = (i : ℕ) → i < length rows → slice_index sizes i ≡ need (row_at rows i).form (slot_number sizes (row_at rows i))
