-- The least place of what is amiss among the members of a list.
use Rattle.std.specs.Prelude.{◌≡◌, ◌≤◌, ◌<◌, ◌⊎◌, ℕ, Option, Some, None, min}

-- something is amiss with one of the first so many members of a list, each of which has a place
abbrev pub IsAmong : (ℕ → Type 0) → (ℕ → ℕ) → ℕ → ℕ → Type 0
IsAmong Amiss place count q = (k : ℕ) × (k < count) × Amiss k × (q ≡ place k)

-- the lesser of two places, where there are some
abbrev pub lesser_of : Option ℕ → Option ℕ → Option ℕ
lesser_of None b = b
lesser_of (Some p) None = Some p
lesser_of (Some p) (Some q) = Some (min p q)

-- the greatest of so many numbers, or 0 where there are none
pub record IsGreatestOf (number : ℕ → ℕ) (count greatest : ℕ) : Type 0 where
  pub bound : (k : ℕ) → k < count → number k ≤ greatest
  pub one : (greatest ≡ 0) ⊎ ((k : ℕ) × (k < count) × (number k ≡ greatest))
