-- Slots that grow by steps.
use Rattle.std.specs.Prelude.{◌≡◌, ◌≤◌, ◌<◌, ◌+◌, ◌*◌, ◌⊎◌, ℕ, List, [], length, take, sum, count_by, slice_index, slice_index_or, nat_eq}
use Rattle.std.specs.List.Sorted.{IsNonDecreasingBy}
use Rattle.leb_codec.specs.Layout.{SlotRow, row_at, slot_number, need, size_after, sizes_below}
use Rattle.check_units.specs.declared.steps.Step.{Step}
use Rattle.check_units.specs.inside.Dealing.{step_at}
use Rattle.check_units.specs.inside.Sums.{numbers_of, AreSums}

-- steps of slots that are there, by rising rank
pub record AreSteps (count : ℕ) (steps : List Step) : Type 0 where
  pub slots : (p : ℕ) → p < length steps → (step_at steps p).slot < count
  pub rising : IsNonDecreasingBy (λ (step : Step). step.rank) steps

-- sums of the sizes that slots have after the first so many steps
pub record HasTaken (rows : List SlotRow) (steps : List Step) (taken : ℕ) (cells : List ℕ) : Type 0 where
  pub sums : AreSums cells
  pub long : length (numbers_of cells) ≡ length rows
  pub sizes : (i : ℕ) → i < length rows →
      slice_index (numbers_of cells) i ≡ size_after (row_at rows i).form (count_by (λ (step : Step). nat_eq step.slot i) (take taken steps))
  pub few : sum (numbers_of cells) ≤ 2 * length rows + 2 * taken

-- a step is needed under these sizes
abbrev pub IsNeededUnder : List SlotRow → List ℕ → Step → Type 0
IsNeededUnder rows sizes step =
    size_after (row_at rows step.slot).form (step.number + 1) ≤
    need (row_at rows step.slot).form (slot_number sizes (row_at rows step.slot))

-- a step was needed by the steps of lower rank
abbrev pub IsNeeded : List SlotRow → List (List ℕ) → Step → Type 0
IsNeeded rows lists step = IsNeededUnder rows (sizes_below step.rank rows lists) step

-- each step of a slot was needed by the steps of lower rank
abbrev pub IsSlotNeeded : List SlotRow → List (List ℕ) → ℕ → Type 0
IsSlotNeeded rows lists i =
    (k : ℕ) → k < length (slice_index_or lists i []) →
    IsNeeded rows lists (record { rank = slice_index (slice_index_or lists i []) k; slot = i; number = k })

-- the first so many steps have been looked at, and no slot before the first that failed has one that wasn't needed
pub record AreJudged (rows : List SlotRow) (lists : List (List ℕ)) (steps : List Step) (judged first : ℕ) : Type 0 where
  pub good : (p : ℕ) → p < judged → (step_at steps p).slot < first → IsNeeded rows lists (step_at steps p)
  pub bad : first < length rows → (p : ℕ) × (p < judged) × ((step_at steps p).slot ≡ first) × (¬ IsNeeded rows lists (step_at steps p))

-- what a look at a step makes of the first slot that has failed so far: that of the step, where it isn't needed and comes before
pub record IsJudged (rows : List SlotRow) (sizes : List ℕ) (step : Step) (first next : ℕ) : Type 0 where
  pub no_higher : next ≤ first
  pub good : step.slot < next → IsNeededUnder rows sizes step
  pub bad : (next ≡ first) ⊎ ((next ≡ step.slot) × (¬ IsNeededUnder rows sizes step))
