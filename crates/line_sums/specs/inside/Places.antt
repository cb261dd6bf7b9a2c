-- What a map tells of the steps that were counted. Private functions alone cite this.
use Rattle.std.specs.Prelude.{◌≡◌, ◌<◌, ℕ, List, length, map, false, Option, None, Some}
use Rattle.std.specs.List.{list_any, position_or_len}
use Rattle.std.specs.BTreeMap.{BTreeMap, get}
use Rattle.line_sums.specs.declared.count.CountedStep.{CountedStep}
use Rattle.line_sums.specs.declared.step.Step.{Step}
use Rattle.line_sums.specs.contracts.step.StepOrd.TheImpl.{cmp-value}
use Rattle.line_sums.specs.contracts.step.StepPartialEq.TheImpl.{eq-value}
use Rattle.line_sums.specs.Counting.{step_in}

-- the first place of a step among those that are counted, or none where it isn't among them
abbrev pub IsPlace : List CountedStep → Step → Option ℕ → Type 0
IsPlace counted s None = list_any (eq-value.it s) (map step_in counted) ≡ false
IsPlace counted s (Some place) = (place < length counted) × (place ≡ position_or_len (eq-value.it s) (map step_in counted))

-- the map tells of each step its place
pub record ArePlaces (places : BTreeMap Step ℕ) (counted : List CountedStep) : Type 0 where
  pub each : (s : Step) → IsPlace counted s (get cmp-value.it places s)
