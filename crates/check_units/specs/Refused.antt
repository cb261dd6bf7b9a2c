-- Where the record of a unit's layout is refused.
use Rattle.std.specs.Prelude.{◌≡◌, ◌<◌, ◌-◌, ◌⊎◌, ℕ, List, length}
use Rattle.leb_codec.specs.Layout.{SlotRow, AcceptsSlot, step_count}

-- a slot is the first that isn't accepted
pub record IsRefusedSlot (rows : List SlotRow) (sizes ranks : List ℕ) (i : ℕ) : Type 0 where
  pub there : i < length rows
  pub refused : ¬ AcceptsSlot rows sizes ranks i
  pub before : (j : ℕ) → j < i → AcceptsSlot rows sizes ranks j

-- all slots are accepted, and ranks are left over: that is a fault of the last slot, or of slot 0 where there is none
pub record HasRanksLeft (rows : List SlotRow) (sizes ranks : List ℕ) (i : ℕ) : Type 0 where
  pub slots : (j : ℕ) → j < length rows → AcceptsSlot rows sizes ranks j
  pub left : step_count rows sizes < length ranks
  pub last : i ≡ length rows - 1

-- the first slot by which a record is refused
abbrev pub IsFirstRefused : List SlotRow → List ℕ → List ℕ → ℕ → Type 0
IsFirstRefused rows sizes ranks i = IsRefusedSlot rows sizes ranks i ⊎ HasRanksLeft rows sizes ranks i
