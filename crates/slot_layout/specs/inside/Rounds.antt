-- The rounds that find a layout, and what each keeps.
use Rattle.std.specs.Prelude.{◌≡◌, ◌≤◌, ◌<◌, ◌+◌, ◌^◌, ℕ, List, [], ◌∷◌, ◌++◌, length, take, map, sum, max, slice_index, slice_index_or}
use Rattle.leb_codec.specs.Layout.{SlotRow, row_at, slot_number, need, size_after, steps_to}
use Rattle.slot_layout.specs.Rows.{HasRangesInside, HasSmallFixed, most_slots}

-- what a slot list must be
pub record AreSlots (rows : List SlotRow) : Type 0 where
  pub few : length rows ≤ most_slots
  pub inside : HasRangesInside rows
  pub small : HasSmallFixed rows

-- the smallest size of each slot
abbrev pub smallest_of : List SlotRow → List ℕ
smallest_of rows = map (λ row. size_after row.form 0) rows

-- a list has at each place, and at the end, the sum of the sizes before
pub record AreStarts (sizes starts : List ℕ) : Type 0 where
  pub one_more : length starts ≡ length sizes + 1
  pub each : (k : ℕ) → k ≤ length sizes → slice_index starts k ≡ sum (take k sizes)

-- so many sizes, each of 1 to 5 bytes
pub record AreSmall (sizes : List ℕ) : Type 0 where
  pub few : length sizes ≤ most_slots
  pub some : (i : ℕ) → i < length sizes → 1 ≤ slice_index sizes i
  pub each : (i : ℕ) → i < length sizes → slice_index sizes i ≤ 5

-- the size of a slot after a round that began with these sizes
abbrev pub raised_size : List SlotRow → List ℕ → ℕ → ℕ
raised_size rows sizes i = max (slice_index sizes i) (need (row_at rows i).form (slot_number sizes (row_at rows i)))

-- a round leads from these sizes to those
pub record AreRaised (rows : List SlotRow) (old new : List ℕ) : Type 0 where
  pub same_length : length new ≡ length old
  pub each : (i : ℕ) → i < length old → slice_index new i ≡ raised_size rows old i

-- the ranks that a slot's steps have after a round of a rank, which led it from one count of steps to another
pub record AreNoted (from to rank : ℕ) (old new : List ℕ) : Type 0 where
  pub same_length : length new ≡ length old
  pub before : (k : ℕ) → k < from → slice_index new k ≡ slice_index old k
  pub since : (k : ℕ) → from ≤ k → k < to → slice_index new k ≡ rank

-- the same for a slot by its sizes
abbrev pub NotesSlot : List SlotRow → List ℕ → List ℕ → ℕ → List (List ℕ) → List (List ℕ) → ℕ → Type 0
NotesSlot rows sizes raised rank old new i =
    AreNoted (steps_to (row_at rows i).form (slice_index sizes i)) (steps_to (row_at rows i).form (slice_index raised i)) rank (slice_index_or old i []) (slice_index_or new i [])

-- the ranks of all steps in slot order, from a list for each slot that has them in front
abbrev pub joined : List SlotRow → List ℕ → List (List ℕ) → List ℕ
joined (row ∷ rows) (size ∷ sizes) (ranks ∷ more) = take (steps_to row.form size) ranks ++ joined rows sizes more
joined _ _ _ = []
