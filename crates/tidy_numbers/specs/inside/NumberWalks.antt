-- Numbers that are looked at one after the other, and the first of them with a byte too many.
use Rattle.std.specs.Prelude.{◌≡◌, ◌≤◌, ◌+◌, ◌⊎◌, ◌++◌, ℕ, List, drop, Option, Some}
use Rattle.spelled.specs.Spelled.{Joined}
use Rattle.leb_codec.specs.Leb.{Uleb}
use Rattle.tidy_places.specs.Firsts.{IsLeastFound}
use Rattle.entry_arena.specs.Trees.{SpellsBetween}
use Rattle.loc_lists.specs.Views.{SpellsPair}
use Rattle.list_arena.specs.Held.{HeldViews}
use Rattle.value_links.specs.Reading.{ViewRead}
use Rattle.tidy_numbers.specs.Fronts.{IsLong, Behind}

-- a thing stands at a place of the bytes
abbrev pub StandsFrom : (List ℕ → Type 0) → List ℕ → ℕ → Type 0
StandsFrom Spells bytes start = (end : ℕ) × SpellsBetween Spells bytes start end

-- wherever it ends, it is here
abbrev pub EndsFrom : (List ℕ → Type 0) → List ℕ → ℕ → ℕ → Type 0
EndsFrom Spells bytes start here = (end : ℕ) → SpellsBetween Spells bytes start end → here ≡ end

-- this holds at a place, of the bytes from another place on; both places count from the first of all bytes
abbrev pub HoldsFrom : (ℕ → List ℕ → Type 0) → List ℕ → ℕ → ℕ → Type 0
HoldsFrom Holds bytes start p = (inner : ℕ) × Holds inner (drop start bytes) × (p ≡ start + inner)

-- the least place is found: one that was found before, or one at which this holds from a place on
abbrev pub IsFoundFrom : Option ℕ → (ℕ → List ℕ → Type 0) → List ℕ → ℕ → Option ℕ → Type 0
IsFoundFrom before Holds bytes start found = IsLeastFound (λ p. (before ≡ Some p) ⊎ HoldsFrom Holds bytes start p) found

-- Of the places at which something holds some are left. What was found is one of them all, and isn't behind any that is no longer left.
pub record IsFoundBut (Holds Left : ℕ → Type 0) (found : Option ℕ) : Type 0 where
  pub sound : (p : ℕ) → found ≡ Some p → Holds p
  pub left : (p : ℕ) → Left p → Holds p
  pub full : (p : ℕ) → Holds p → Left p ⊎ ((q : ℕ) × (found ≡ Some q) × (q ≤ p))

-- VIEW PAIRS

-- one of the two numbers of a pair is such a number
abbrev pub IsLongPair : ℕ → List ℕ → Type 0
IsLongPair inner bytes = IsLong inner bytes ⊎ Behind Uleb (λ first. IsLong) inner bytes

-- a run that is held, as it was read
abbrev pub run_read : HeldViews → ViewRead
run_read run = record { list = run.list; at = run.at; pairs = run.pairs }

-- the bytes from the place of a run on begin with its pairs
abbrev pub IsRunIn : List ℕ → ViewRead → Type 0
IsRunIn bytes run = (first : List ℕ) × (rest : List ℕ) × Joined SpellsPair run.pairs first × (drop run.at bytes ≡ first ++ rest)
