-- Bytes that begin with a LEB128 number that has a byte too many (DWARF 5 section 7.6), by itself or among other things that stand one
-- behind the other. Places count from the first of the bytes.
use Rattle.std.specs.Prelude.{◌≡◌, ◌<◌, ◌+◌, ◌++◌, ℕ, ℤ, List, length}
use Rattle.spelled.specs.Spelled.{Joined}
use Rattle.leb_codec.specs.Leb.{Uleb, Sleb, least_unsigned_len, least_signed_len}

-- the bytes begin with a number in ULEB128 that has a byte too many
pub record BeginsLong (bytes : List ℕ) : Type 0 where
  pub number : ℕ
  pub first : List ℕ
  pub rest : List ℕ
  pub spelled : Uleb number first
  pub whole : bytes ≡ first ++ rest
  pub long : least_unsigned_len number < length first

-- likewise one in SLEB128
pub record BeginsLongSigned (bytes : List ℕ) : Type 0 where
  pub number : ℤ
  pub first : List ℕ
  pub rest : List ℕ
  pub spelled : Sleb number first
  pub whole : bytes ≡ first ++ rest
  pub long : least_signed_len number < length first

-- such a number is the first thing
abbrev pub IsLong : ℕ → List ℕ → Type 0
IsLong at bytes = (at ≡ 0) × BeginsLong bytes

abbrev pub IsLongSigned : ℕ → List ℕ → Type 0
IsLongSigned at bytes = (at ≡ 0) × BeginsLongSigned bytes

-- a thing is there, and something holds at a place behind it, which may depend on the thing
abbrev pub Behind : {V : Type 0} → (V → List ℕ → Type 0) → (V → ℕ → List ℕ → Type 0) → ℕ → List ℕ → Type 0
Behind {V} Spells Holds at bytes = (v : V) × (first : List ℕ) × (rest : List ℕ) × (inner : ℕ) × Spells v first × Holds v inner rest × (bytes ≡ first ++ rest) × (at ≡ length first + inner)

-- some things are there, and something holds at a place behind them
abbrev pub BehindSome : {V : Type 0} → (V → List ℕ → Type 0) → (ℕ → List ℕ → Type 0) → ℕ → List ℕ → Type 0
BehindSome {V} Spells Holds at bytes = (vs : List V) × (front : List ℕ) × (rest : List ℕ) × (inner : ℕ) × Joined Spells vs front × Holds inner rest × (bytes ≡ front ++ rest) × (at ≡ length front + inner)
