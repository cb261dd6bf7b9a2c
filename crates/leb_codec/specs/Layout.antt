-- The layout of a unit: how many bytes each slot has. A slot is a place whose number counts bytes of the unit, and so
-- depends on the sizes of slots: a local reference or a length in ULEB128 (DWARF 5 section 7.6), or the operand of
-- DW_OP_call2 or DW_OP_call4 (section 2.5.1.5).
use Rattle.std.specs.Prelude.{◌≡◌, ◌≤◌, ◌<◌, ◌+◌, ◌-◌, ◌*◌, ◌^◌, ◌⊎◌, ℕ, List, [], ◌∷◌, length, take, drop, sum, count_by, slice_index, slice_index_or, slice_range, nat_lt, nat_eq, if◌then◌else◌, Bool}
use Rattle.std.specs.List.Sorted.{IsNonDecreasing}
use Rattle.leb_codec.specs.Leb.{least_unsigned_len}
use Rattle.leb_codec.specs.Least.{IsLeast}

-- what spells a slot's number
pub data SlotForm : Type 0 where
  uleb : SlotForm
  call : SlotForm

-- a slot: its number is `fixed` plus the sizes of the slots `from` up to but not including `to`, which count from 0
pub record SlotRow : Type 0 where
  pub form : SlotForm
  pub fixed : ℕ
  pub from : ℕ
  pub to : ℕ

-- the slot at a place; past the end there is none, and an empty one stands for it
abbrev pub row_at : List SlotRow → ℕ → SlotRow
row_at rows i = slice_index_or rows i (record { form = uleb; fixed = 0; from = 0; to = 0 })

abbrev pub slot_number : List ℕ → SlotRow → ℕ
slot_number sizes row = row.fixed + sum (slice_range sizes row.from row.to)

-- the bytes that a number needs
abbrev pub need : SlotForm → ℕ → ℕ
need uleb number = least_unsigned_len number
need call number = if nat_lt number 65536 then 2 else 4

-- the sizes that a slot may have
abbrev pub IsSlotSize : SlotForm → ℕ → Type 0
IsSlotSize uleb size = (1 ≤ size) × (size ≤ 10)
IsSlotSize call size = (size ≡ 2) ⊎ (size ≡ 4)

-- the numbers that a slot can hold in its largest size; a ULEB of 10 bytes holds all that arise
abbrev pub IsSlotNumber : SlotForm → ℕ → Type 0
IsSlotNumber uleb number = Unit {0}
IsSlotNumber call number = number < 2 ^ 32

-- a slot holds its own number under these sizes
pub record HoldsNumber (rows : List SlotRow) (sizes : List ℕ) (i : ℕ) : Type 0 where
  pub enough : need (row_at rows i).form (slot_number sizes (row_at rows i)) ≤ slice_index sizes i
  pub narrow : IsSlotNumber (row_at rows i).form (slot_number sizes (row_at rows i))

-- the class: sizes under which each slot holds its own number
pub record IsLayout (rows : List SlotRow) (sizes : List ℕ) : Type 0 where
  pub same_length : length sizes ≡ length rows
  pub sized : (i : ℕ) → i < length rows → IsSlotSize (row_at rows i).form (slice_index sizes i)
  pub holds : (i : ℕ) → i < length rows → HoldsNumber rows sizes i

abbrev pub IsLeastLayout : List SlotRow → List ℕ → Type 0
IsLeastLayout rows sizes = IsLeast (IsLayout rows) sum sizes

-- slot by slot at most the sizes of each member of the class
abbrev pub IsLowestLayout : List SlotRow → List ℕ → Type 0
IsLowestLayout rows sizes =
    (other : List ℕ) → IsLayout rows other → (i : ℕ) → i < length rows → slice_index sizes i ≤ slice_index other i

-- each number is below 2^32 under these sizes
abbrev pub HasNarrowNumbers : List SlotRow → List ℕ → Type 0
HasNarrowNumbers rows sizes = (i : ℕ) → i < length rows → slot_number sizes (row_at rows i) < 2 ^ 32

-- ---- ranks: a record that shows why no layout is smaller

-- the size of a slot after some steps from its smallest size: a ULEB grows by bytes, a call once by 2
abbrev pub size_after : SlotForm → ℕ → ℕ
size_after uleb steps = 1 + steps
size_after call steps = 2 + 2 * steps

-- the steps to a size
abbrev pub steps_to : SlotForm → ℕ → ℕ
steps_to uleb size = size - 1
steps_to call size = if nat_eq size 4 then 1 else 0

-- the ranks of each slot's steps, where `ranks` has those of all steps in slot order
abbrev pub ranks_by_slot : List SlotRow → List ℕ → List ℕ → List (List ℕ)
ranks_by_slot (row ∷ rows) (size ∷ sizes) ranks =
    take (steps_to row.form size) ranks ∷ ranks_by_slot rows sizes (drop (steps_to row.form size) ranks)
ranks_by_slot _ _ _ = []

-- each slot at its smallest size plus its steps of rank below t
abbrev pub sizes_below : ℕ → List SlotRow → List (List ℕ) → List ℕ
sizes_below t (row ∷ rows) (ranks ∷ more) =
    size_after row.form (count_by (λ rank. nat_lt rank t) ranks) ∷ sizes_below t rows more
sizes_below _ _ _ = []

-- what a slot's number needs by the steps of rank below t
abbrev pub need_below : ℕ → List SlotRow → List ℕ → List ℕ → ℕ → ℕ
need_below t rows sizes ranks i =
    need (row_at rows i).form (slot_number (sizes_below t rows (ranks_by_slot rows sizes ranks)) (row_at rows i))

-- the ranks of one slot
abbrev pub ranks_at : List SlotRow → List ℕ → List ℕ → ℕ → List ℕ
ranks_at rows sizes ranks i = slice_index_or (ranks_by_slot rows sizes ranks) i []

-- a slot's ranks are there and never fall, each step to a size was needed by the steps of lower rank, and the slot
-- holds its number
pub record AcceptsSlot (rows : List SlotRow) (sizes ranks : List ℕ) (i : ℕ) : Type 0 where
  pub there : length (ranks_at rows sizes ranks i) ≡ steps_to (row_at rows i).form (slice_index sizes i)
  pub rising : IsNonDecreasing (ranks_at rows sizes ranks i)
  pub needed : (k : ℕ) → k < length (ranks_at rows sizes ranks i) → size_after (row_at rows i).form (k + 1) ≤ need_below (slice_index (ranks_at rows sizes ranks i) k) rows sizes ranks i
  pub holds : HoldsNumber rows sizes i

-- how many steps there are in all
abbrev pub step_count : List SlotRow → List ℕ → ℕ
step_count (row ∷ rows) (size ∷ sizes) = steps_to row.form size + step_count rows sizes
step_count _ _ = 0

-- each slot is accepted, and no rank is left over
pub record AcceptsLayout (rows : List SlotRow) (sizes ranks : List ℕ) : Type 0 where
  pub slots : (i : ℕ) → i < length rows → AcceptsSlot rows sizes ranks i
  pub none_left : length ranks ≤ step_count rows sizes

-- each step has the first rank by which it is needed
abbrev pub HasFirstRanks : List SlotRow → List ℕ → List ℕ → Type 0
HasFirstRanks rows sizes ranks =
    (i k t : ℕ) → i < length rows → k < length (ranks_at rows sizes ranks i) → t < slice_index (ranks_at rows sizes ranks i) k → need_below t rows sizes ranks i < size_after (row_at rows i).form (k + 1)
