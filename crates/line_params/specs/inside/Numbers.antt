-- What is known of the numbers of pairs on the way to them. Private functions alone cite this.
use Rattle.std.specs.Prelude.{◌≡◌, ◌≢◌, ◌≤◌, ◌<◌, ◌⊎◌, ℕ, List, length, IsTrue}
use Rattle.std.specs.Int.{is_power_of_two}
use Rattle.line_sums.specs.declared.count.CountedStep.{CountedStep}
use Rattle.line_sums.specs.Accepted.{IsAccepted, IsCandidate, IsLeastNumber}
use Rattle.line_sums.specs.Sums.{base_at}

-- 0, or a power of two
abbrev pub IsRound : ℕ → Type 0
IsRound n = (n ≡ 0) ⊎ IsTrue (is_power_of_two n)

-- a line_base with the number of all steps gets the index where its total is at least so many bytes
abbrev pub GivesOnce : ℕ → ℕ → ℕ → ℕ → ℕ → ℕ → Type 0
GivesOnce all index bytes total old new = ((old ≡ all) × (bytes ≤ total) × (new ≡ index)) ⊎ ((new ≡ old) × ((old ≢ all) ⊎ (total < bytes)))

-- the line_base has the number of all steps, and none below an index is accepted
pub record IsPending (range scale bytes : ℕ) (counted : List CountedStep) (index place n : ℕ) : Type 0 where
  pub all : n ≡ length counted
  pub refused : (m : ℕ) → m < index → IsCandidate (length counted) m → ¬ IsAccepted (base_at place) range scale 0 bytes counted m

-- the line_base has its number, which isn't that of all steps
pub record IsGiven (range scale bytes : ℕ) (counted : List CountedStep) (place n : ℕ) : Type 0 where
  pub less : n < length counted
  pub least : IsLeastNumber (base_at place) range scale 0 bytes counted n

-- what is known of a line_base while the first counted steps are summed up
abbrev pub IsNumbered : ℕ → ℕ → ℕ → List CountedStep → ℕ → ℕ → ℕ → Type 0
IsNumbered range scale bytes counted index place n = IsPending range scale bytes counted index place n ⊎ IsGiven range scale bytes counted place n
