-- The names of sections, and the debug names that are known.
-- Inner functions and proofs alone need what stands here.
use Rattle.std.specs.Prelude.{ℕ, ◌≤◌, ◌<◌, ◌≡◌, ◌≢◌, List, length, slice_index}
use Rattle.std.specs.List.{All}

-- the byte at `end` is the first zero byte from a place on
pub record IsTextEnd (bytes : List ℕ) (from end : ℕ) : Type 0 where
  pub order : from ≤ end
  pub inside : end < length bytes
  pub zero : slice_index bytes end ≡ 0
  pub before : (k : ℕ) → from ≤ k → k < end → slice_index bytes k ≢ 0

-- each of the pairs has such a byte's place, and then a place from which on it is the first
abbrev pub AreTextEnds : List ℕ → List (ℕ × ℕ) → Type 0
AreTextEnds bytes pairs = All (λ (pair : ℕ × ℕ). IsTextEnd bytes pair.1 pair.0) pairs
