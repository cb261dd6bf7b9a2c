-- The order of the different steps: those that come most often first, and of those that come as often the one that
-- appears first.
use Rattle.std.specs.Prelude.{◌+◌, if◌then◌else◌, Bool, nat_lt, List, [], ◌∷◌}
use Rattle.std.specs.List.Sorted.{IsPermutation, IsSortedBy, IsStableBy}
use Rattle.line_sums.specs.declared.count.CountedStep.{CountedStep}
use Rattle.line_sums.specs.declared.step.Step.{Step}
use Rattle.line_sums.specs.contracts.step.StepPartialEq.TheImpl.{eq-value}

-- one step more is counted: where it is equal to one that was, else behind them
abbrev pub counted_once : List CountedStep → Step → List CountedStep
counted_once [] s = record { step = s; count = 1 } ∷ []
counted_once (c ∷ cs) s = if eq-value.it s c.step then record { step = c.step; count = c.count + 1 } ∷ cs else c ∷ counted_once cs s

-- more steps are counted, one by one
abbrev pub counted_from : List CountedStep → List Step → List CountedStep
counted_from cs [] = cs
counted_from cs (s ∷ ss) = counted_from (counted_once cs s) ss

-- the different steps with their counts, in the order in which they first appear
abbrev pub first_counts : List Step → List CountedStep
first_counts steps = counted_from [] steps

-- a counted step comes more often than another
abbrev pub comes_more : CountedStep → CountedStep → Bool
comes_more c d = nat_lt d.count c.count

-- the different steps with their counts, in order of falling count and, of equal counts, of first appearance
pub record AreOrdered (steps : List Step) (counted : List CountedStep) : Type 0 where
  pub same : IsPermutation (first_counts steps) counted
  pub falling : IsSortedBy comes_more counted
  pub stable : IsStableBy comes_more (first_counts steps) counted
