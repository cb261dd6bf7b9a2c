-- The ranks of a record dealt out to the slots, and the steps that have them.
use Rattle.std.specs.Prelude.{◌≡◌, ◌≤◌, ◌<◌, ◌+◌, ◌^◌, ℕ, suc, List, [], ◌∷◌, ◌++◌, length, take, min, slice_index, slice_index_or, slice_range}
use Rattle.std.specs.List.Sorted.{IsPermutation, IsNonDecreasingBy}
use Rattle.leb_codec.specs.Layout.{SlotRow, step_count}
use Rattle.check_units.specs.declared.steps.Step.{Step}

-- how many steps there are before a slot
abbrev pub steps_before : List SlotRow → List ℕ → ℕ → ℕ
steps_before rows sizes i = step_count (take i rows) (take i sizes)

-- where the ranks of each slot begin, and where those of the last end, of so many ranks
pub record AreDealt (rows : List SlotRow) (sizes : List ℕ) (count : ℕ) (starts : List ℕ) : Type 0 where
  pub one_more : length starts ≡ length rows + 1
  pub each : (i : ℕ) → i ≤ length rows → slice_index starts i ≡ min (steps_before rows sizes i) count

-- places that cut a list of this length into pieces of less than 2^32 each
pub record AreCuts (count : ℕ) (starts : List ℕ) : Type 0 where
  pub up : (i : ℕ) → i + 1 < length starts → slice_index starts i ≤ slice_index starts (i + 1)
  pub near : (i : ℕ) → i + 1 < length starts → slice_index starts (i + 1) < slice_index starts i + 2 ^ 32
  pub inside : (i : ℕ) → i < length starts → slice_index starts i ≤ count

-- the pieces of ranks between places
abbrev pub pieces : List ℕ → List ℕ → List (List ℕ)
pieces ranks (start ∷ end ∷ starts) = slice_range ranks start end ∷ pieces ranks (end ∷ starts)
pieces ranks _ = []

-- the steps of one slot, from a number on
abbrev pub steps_from : ℕ → ℕ → List ℕ → List Step
steps_from i number (rank ∷ ranks) = record { rank = rank; slot = i; number = number } ∷ steps_from i (suc number) ranks
steps_from i number [] = []

-- the steps of slots, from a slot on
abbrev pub steps_of : ℕ → List (List ℕ) → List Step
steps_of i (ranks ∷ more) = steps_from i 0 ranks ++ steps_of (suc i) more
steps_of i [] = []

-- all steps of slots, by rising rank
pub record AreInOrder (lists : List (List ℕ)) (steps : List Step) : Type 0 where
  pub moved : IsPermutation (steps_of 0 lists) steps
  pub rising : IsNonDecreasingBy (λ (step : Step). step.rank) steps

-- the step at a place
abbrev pub step_at : List Step → ℕ → Step
step_at steps p = slice_index_or steps p (record { rank = 0; slot = 0; number = 0 })
