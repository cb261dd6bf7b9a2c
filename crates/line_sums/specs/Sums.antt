-- Sums of what steps cost, for each line_base under one line_range. `scale` is minimum_instruction_length.
use Rattle.std.specs.Prelude.{◌≡◌, ◌≤◌, ◌<◌, ◌+◌, ◌*◌, ℕ, ℤ, pos, ◌-ℤ◌, List, take, drop, slice_index}
use Rattle.leb_codec.specs.LineCosts.{IsLeastCost}
use Rattle.line_sums.specs.declared.count.CountedStep.{CountedStep}
use Rattle.line_sums.specs.declared.step.Step.{Step}
use Rattle.line_sums.specs.Counting.{CountedWithin, counted_price, count_of}
use Rattle.line_sums.specs.Steps.{StepCosts}

-- the line_base of a place among all of them, from -128 on
abbrev pub base_at : ℕ → ℤ
base_at place = pos place -ℤ pos 128

-- the second number is the first and what a counted step costs
pub record AddsCost (base : ℤ) (range scale : ℕ) (counted : CountedStep) (old new : ℕ) : Type 0 where
  pub bytes : ℕ
  pub least : IsLeastCost (StepCosts base range scale counted.step) bytes
  pub few : bytes ≤ 18
  pub added : new ≡ old + counted.count * bytes

-- the first of the places with the least sum
pub record IsFirstLeast (sums : List ℕ) (place : ℕ) : Type 0 where
  pub within : place < 256
  pub least : (other : ℕ) → other < 256 → slice_index sums place ≤ slice_index sums other
  pub first : (other : ℕ) → other < place → slice_index sums place < slice_index sums other

-- for each line_base the sum is what the first of the counted steps cost, and the rest is a floor of the others
pub record AreSummed (range scale : ℕ) (floor : Step → ℕ) (counted : List CountedStep) (index : ℕ) (sums : List ℕ) (rest : ℕ) : Type 0 where
  pub least : (place : ℕ) → place < 256 → IsLeastCost (CountedWithin (base_at place) range scale (take index counted)) (slice_index sums place)
  pub few : (place : ℕ) → place < 256 → slice_index sums place ≤ 18 * count_of (take index counted)
  pub rest_is : rest ≡ counted_price floor (drop index counted)
