-- The different steps of a program, each with how often it comes, and what they cost together.
-- `base` is line_base, `range` is line_range, and `scale` is minimum_instruction_length.
use Rattle.std.specs.Prelude.{◌≡◌, ◌≤◌, ◌+◌, ◌*◌, ◌^◌, ℕ, ℤ, pos, neg_ℤ, ◌≤ℤ◌, List, [], ◌∷◌, ⊤}
use Rattle.line_sums.specs.declared.count.CountedStep.{CountedStep}
use Rattle.line_sums.specs.declared.step.Step.{Step}
use Rattle.line_sums.specs.declared.step.Step.TheVariants.{Row as RowStep, End as EndStep}
use Rattle.line_sums.specs.Steps.{StepCosts}

-- what steps cost together, one by one, where each step has a price
abbrev pub price_of : (Step → ℕ) → List Step → ℕ
price_of price [] = 0
price_of price (s ∷ ss) = price s + price_of price ss

-- what counted steps cost together
abbrev pub counted_price : (Step → ℕ) → List CountedStep → ℕ
counted_price price [] = 0
counted_price price (c ∷ cs) = c.count * price c.step + counted_price price cs

-- The different steps with their counts are these steps: whatever the prices, they cost the same.
pub record IsCounted (steps : List Step) (counted : List CountedStep) : Type 0 where
  pub same : (price : Step → ℕ) → counted_price price counted ≡ price_of price steps

-- the step of a counted one
abbrev pub step_in : CountedStep → Step
step_in counted = counted.step

-- how many steps were counted
abbrev pub count_of : List CountedStep → ℕ
count_of counted = counted_price (λ _. 1) counted

-- the line distance of a step is one between two lines below 2 ^ 32
abbrev pub HasLine : Step → Type 0
HasLine (RowStep line distance) = (neg_ℤ (pos (2 ^ 32)) ≤ℤ line) × (line ≤ℤ pos (2 ^ 32))
HasLine (EndStep distance) = ⊤

-- the same of a counted step
abbrev pub HasCountedLine : CountedStep → Type 0
HasCountedLine counted = HasLine counted.step

-- each step's price is enough for it
pub record ArePrices (base : ℤ) (range scale : ℕ) (price : Step → ℕ) : Type 0 where
  pub each : (s : Step) → StepCosts base range scale s (price s)

-- n bytes are enough for counted steps together
pub record CountedWithin (base : ℤ) (range scale : ℕ) (counted : List CountedStep) (n : ℕ) : Type 0 where
  pub paid : Step → ℕ
  pub enough : ArePrices base range scale paid
  pub cost : counted_price paid counted ≤ n

-- the bytes of the opcode that appends a step's row: one, or the three of end_sequence
abbrev pub row_bytes : Step → ℕ
row_bytes (RowStep line distance) = 1
row_bytes (EndStep distance) = 3
