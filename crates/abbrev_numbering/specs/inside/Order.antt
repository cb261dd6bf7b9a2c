-- The used declarations as a list of their own, and the numbers that its order gives.
use Rattle.std.specs.Prelude.{◌≡◌, ◌<◌, ◌+◌, ◌⊎◌, ◌≢◌, ℕ, zero, suc, List, [], ◌∷◌, ◌++◌, length, slice_index, slice_index_or, nat_lt, if◌then◌else◌}
use Rattle.std.specs.declared.cmp.Reverse.{Reverse}

-- a used declaration: its uses and its place
abbrev pub Used : Type 0
Used = Reverse ℕ × ℕ

abbrev pub used_at : List ℕ → ℕ → Used
used_at uses i = (record { 0 = slice_index uses i }, i)

-- the used ones among the first n
abbrev pub used_among : List ℕ → ℕ → List Used
used_among uses zero = []
used_among uses (suc n) =
    if nat_lt 0 (slice_index uses n) then used_among uses n ++ used_at uses n ∷ [] else used_among uses n

-- the place of the k-th; past the end, 0
abbrev pub place_at : List Used → ℕ → ℕ
place_at order k = (slice_index_or order k (record { 0 = 0 }, 0)).1

-- places below a number, none of them twice
pub record ArePlaces (order : List Used) (count : ℕ) : Type 0 where
  pub inside : (k : ℕ) → k < length order → place_at order k < count
  pub apart : (k l : ℕ) → k < l → l < length order → place_at order k ≢ place_at order l

-- the places have the numbers from 1 on in this order, all others 0
pub record AreNumbered (order : List Used) (count : ℕ) (numbers : List ℕ) : Type 0 where
  pub same_length : length numbers ≡ count
  pub each : (k : ℕ) → k < length order → slice_index numbers (place_at order k) ≡ k + 1
  pub others : (i : ℕ) → i < count → (slice_index numbers i ≡ 0) ⊎ ((k : ℕ) × (k < length order) × (place_at order k ≡ i))
