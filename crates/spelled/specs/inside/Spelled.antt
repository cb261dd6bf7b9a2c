-- Things that are spelled by bytes, one after the other. A relation `Spells` says which bytes spell a value.
-- Bytes are numbers below 256.
-- Inner functions and proofs alone need what stands here.
use Rattle.std.specs.Prelude.{◌≡◌, ◌<◌, ℕ, List, ◌++◌, length}
use Rattle.spelled.specs.Spelled.{Joined}

-- each spelling has a byte
abbrev pub HasBytes : {V : Type 0} → (V → List ℕ → Type 0) → Type 0
HasBytes {V} Spells = (v : V) (a : List ℕ) → Spells v a → 0 < length a

-- some values and their bytes, and then more values and the bytes of these
pub record GoesOn {V : Type 0} (Spells : V → List ℕ → Type 0) (vs : List V) (a : List ℕ) (ws : List V) (b : List ℕ) : Type 0 where
  pub more : List V
  pub tail : List ℕ
  pub values : ws ≡ vs ++ more
  pub bytes : b ≡ a ++ tail
  pub spelled : Joined Spells more tail

-- no two ends begin the same bytes
abbrev pub HasOneEnd : (List ℕ → Type 0) → Type 0
HasOneEnd IsEnd = (a b x y : List ℕ) → IsEnd a → IsEnd b → a ++ x ≡ b ++ y → a ≡ b
