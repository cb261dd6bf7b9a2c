-- The parts of what a slot is accepted by, each sought for all slots.
use Rattle.std.specs.Prelude.{◌≡◌, ◌≤◌, ◌<◌, ◌^◌, ℕ, List, length, slice_index}
use Rattle.std.specs.List.Sorted.{IsNonDecreasing}
use Rattle.leb_codec.specs.Layout.{SlotRow, row_at, steps_to, ranks_at}
use Rattle.slot_layout.specs.Rows.{CanHaveSize, HasRangesInside}

-- the first of so many places that hasn't this, or their count where each has it
pub record IsFirstWithout (Holds : ℕ → Type 0) (count first : ℕ) : Type 0 where
  pub within : first ≤ count
  pub before : (i : ℕ) → i < first → Holds i
  pub fails : first < count → ¬ Holds first

-- a slot's ranks are there and never fall
pub record HasItsRanks (rows : List SlotRow) (sizes ranks : List ℕ) (i : ℕ) : Type 0 where
  pub there : length (ranks_at rows sizes ranks i) ≡ steps_to (row_at rows i).form (slice_index sizes i)
  pub rising : IsNonDecreasing (ranks_at rows sizes ranks i)

-- what the slots of a check must be: 32 bits number them, and their ranges lie in the list
pub record AreSlotsToCheck (rows : List SlotRow) : Type 0 where
  pub few : length rows < 2 ^ 32
  pub inside : HasRangesInside rows

-- what a check is given: slots, and a size for each
pub record AreChecked (rows : List SlotRow) (sizes : List ℕ) : Type 0 where
  pub few : length rows < 2 ^ 32
  pub inside : HasRangesInside rows
  pub each_slot : length sizes ≡ length rows
  pub sized : (i : ℕ) → i < length rows → CanHaveSize (row_at rows i).form (slice_index sizes i)
