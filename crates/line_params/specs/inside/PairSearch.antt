-- What the search for the pair knows on its way. Private functions alone cite this. `scale` is minimum_instruction_length.
use Rattle.std.specs.Prelude.{◌≡◌, ◌≤◌, ◌<◌, ◌+◌, ◌*◌, ◌⊎◌, ℕ, ℤ, pos, ◌+ℤ◌, nat_abs, List, slice_index}
use Rattle.leb_codec.specs.LineCosts.{IsLeastCost}
use Rattle.line_machine.specs.declared.head.Head.{Head}
use Rattle.line_machine.specs.Class.{IsPair, IsPairOf, ComesFirst}
use Rattle.line_params.specs.declared.choice.Choice.{Choice}
use Rattle.line_params.specs.declared.pair.Pair.{Pair}
use Rattle.line_sums.specs.declared.count.CountedStep.{CountedStep}
use Rattle.line_sums.specs.Counting.{CountedWithin, count_of}
use Rattle.line_sums.specs.Sums.{base_at}

-- for each line_base the sum is what the counted steps cost
pub record AreSums (range scale : ℕ) (counted : List CountedStep) (sums : List ℕ) : Type 0 where
  pub each : (place : ℕ) → place < 256 → IsLeastCost (CountedWithin (base_at place) range scale counted) (slice_index sums place)
  pub few : (place : ℕ) → place < 256 → slice_index sums place ≤ 18 * count_of counted

-- a pair that is tried before a range: the head's, or one with a smaller range
abbrev pub IsTried : Head → ℕ → ℤ → ℕ → Type 0
IsTried head range tried_base tried_range = IsPairOf head tried_base tried_range ⊎ (tried_range < range)

-- No pair that is tried before a range is better than the choice, which may have a pair that is tried later: none takes fewer
-- bytes, and none that takes as many comes first.
pub record IsBestTried (head : Head) (counted : List CountedStep) (range : ℕ) (choice : Choice) : Type 0 where
  pub pair : IsPair choice.pair.base choice.pair.range
  pub enough : CountedWithin choice.pair.base choice.pair.range head.min counted choice.bytes
  pub few : choice.bytes ≤ 18 * count_of counted
  pub least : (b : ℤ) (r n : ℕ) → IsPair b r → IsTried head range b r → CountedWithin b r head.min counted n → choice.bytes ≤ n
  pub first : (b : ℤ) (r n : ℕ) → IsPair b r → IsTried head range b r → CountedWithin b r head.min counted n → n ≤ choice.bytes → ComesFirst head choice.pair.base choice.pair.range b r

-- A pair with the line_range may come before another one, or be it.
abbrev pub MayCome : Head → ℕ → Pair → Type 0
MayCome head range pair = (range ≤ pair.range) × ¬ IsPairOf head pair.base pair.range

-- how many pairs come before one, but for the head's
abbrev pub pair_order : Pair → ℕ
pair_order pair = 256 * pair.range + nat_abs (pair.base +ℤ pos 128)

-- The other choice takes the place of the first: it takes fewer bytes, or as many and comes first.
abbrev pub TakesPlace : Head → Choice → Choice → Type 0
TakesPlace head best next =
    (next.bytes < best.bytes)
    ⊎ ((next.bytes ≡ best.bytes) × (¬ IsPairOf head best.pair.base best.pair.range) × (pair_order next.pair < pair_order best.pair))

-- the other choice takes the place of the first, and the head's pair isn't better
pub record IsBetter (head : Head) (counted : List CountedStep) (best next : Choice) : Type 0 where
  pub takes : TakesPlace head best next
  pub start : IsBestTried head counted 1 next
