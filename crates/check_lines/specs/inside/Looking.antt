-- What the check of a record knows on its way. Private functions alone cite this. `range` is line_range, `scale` is
-- minimum_instruction_length, `place` is that of a line_base among all of them, from -128 on, and `bytes` is the size of a
-- program less the bytes that no pair changes.
use Rattle.std.specs.Prelude.{◌≡◌, ◌≤◌, ◌<◌, ◌⊎◌, ℕ, List, slice_index, filter, nat_lt, All}
use Rattle.std.specs.List.{Contains}
use Rattle.leb_codec.specs.Records.{pair_count}
use Rattle.line_sums.specs.declared.count.CountedStep.{CountedStep}
use Rattle.line_sums.specs.Accepted.{IsAccepted, pair_base, pair_range}
use Rattle.line_sums.specs.Sums.{base_at}

-- the number of a place is accepted under a line_range
abbrev pub IsPlaceAccepted : ℕ → ℕ → ℕ → List CountedStep → List ℕ → ℕ → Type 0
IsPlaceAccepted range scale bytes counted numbers place = IsAccepted (base_at place) range scale 0 bytes counted (slice_index numbers place)

-- the search for a refused place may stop here: the place is behind all of them, or its number isn't accepted
abbrev pub IsStop : ℕ → ℕ → ℕ → List CountedStep → List ℕ → ℕ → Type 0
IsStop range scale bytes counted numbers place = (place ≡ 256) ⊎ (¬ IsPlaceAccepted range scale bytes counted numbers place)

-- of the places before one, those whose number is below an index are accepted, and that one is a stop
pub record AreLooked (range scale bytes : ℕ) (counted : List CountedStep) (numbers : List ℕ) (index failed : ℕ) : Type 0 where
  pub within : failed ≤ 256
  pub good : (place : ℕ) → place < failed → slice_index numbers place < index → IsPlaceAccepted range scale bytes counted numbers place
  pub stop : IsStop range scale bytes counted numbers failed

-- the first place whose number isn't accepted, or 256
pub record IsFirstPlace (range scale bytes : ℕ) (counted : List CountedStep) (numbers : List ℕ) (failed : ℕ) : Type 0 where
  pub within : failed ≤ 256
  pub good : (place : ℕ) → place < failed → IsPlaceAccepted range scale bytes counted numbers place
  pub stop : IsStop range scale bytes counted numbers failed

-- the numbers above an index
abbrev pub numbers_above : ℕ → List ℕ → List ℕ
numbers_above index numbers = filter (λ n. nat_lt index n) numbers

-- the least number above an index
pub record IsNextNumber (index : ℕ) (numbers : List ℕ) (next : ℕ) : Type 0 where
  pub among : Contains numbers next
  pub above : index < next
  pub least : All (λ n. next ≤ n) (numbers_above index numbers)

-- the number of a pair is accepted
abbrev pub IsNumberAccepted : ℕ → ℕ → List CountedStep → List ℕ → ℕ → Type 0
IsNumberAccepted scale bytes counted numbers pair = IsAccepted (pair_base pair) (pair_range pair) scale 0 bytes counted (slice_index numbers pair)

-- the first pair whose number isn't accepted
pub record IsFirstNumber (scale bytes : ℕ) (counted : List CountedStep) (numbers : List ℕ) (pair : ℕ) : Type 0 where
  pub there : pair < pair_count
  pub refused : ¬ IsNumberAccepted scale bytes counted numbers pair
  pub before : (earlier : ℕ) → earlier < pair → IsNumberAccepted scale bytes counted numbers earlier
