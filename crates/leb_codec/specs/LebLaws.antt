-- What holds of the lengths and spellings of all numbers in LEB128.
use Rattle.std.specs.Prelude.{◌≡◌, ◌≤◌, ◌+◌, ◌↔◌, ℕ, List, length, ℤ, ◌+ℤ◌}
use Rattle.leb_codec.specs.Leb.{SpellsUnsigned, SpellsSigned, FitsUnsignedLen, FitsSignedLen, IsLeastUnsignedLen, IsLeastSignedLen, least_unsigned_len, least_signed_len, magnitude}

-- the least length: it is the least, and no other is; it rises with the number, and with a sum by no more than both lengths
pub record UnsignedLens : Type 0 where
  pub is_least : (value : ℕ) → IsLeastUnsignedLen value (least_unsigned_len value)
  pub only : (value len : ℕ) → IsLeastUnsignedLen value len → len ≡ least_unsigned_len value
  pub enough : (value len : ℕ) → FitsUnsignedLen value len ↔ (least_unsigned_len value ≤ len)
  pub rises : (v w : ℕ) → v ≤ w → least_unsigned_len v ≤ least_unsigned_len w
  pub sum : (v w : ℕ) → least_unsigned_len (v + w) ≤ least_unsigned_len v + least_unsigned_len w

-- the same of signed numbers: the length rises away from 0
pub record SignedLens : Type 0 where
  pub is_least : (value : ℤ) → IsLeastSignedLen value (least_signed_len value)
  pub only : (value : ℤ) (len : ℕ) → IsLeastSignedLen value len → len ≡ least_signed_len value
  pub enough : (value : ℤ) (len : ℕ) → FitsSignedLen value len ↔ (least_signed_len value ≤ len)
  pub rises : (v w : ℤ) → magnitude v ≤ magnitude w → least_signed_len v ≤ least_signed_len w
  pub sum : (v w : ℤ) → least_signed_len (v +ℤ w) ≤ least_signed_len v + least_signed_len w

-- a number has a spelling of each length from the least on, and of no smaller one; and only one of each length
pub record UnsignedSpellings : Type 0 where
  pub no_shorter : (bytes : List ℕ) (value : ℕ) → SpellsUnsigned bytes value → least_unsigned_len value ≤ length bytes
  pub each_len : (value len : ℕ) → least_unsigned_len value ≤ len → (bytes : List ℕ) × SpellsUnsigned bytes value × (length bytes ≡ len)
  pub one_a_len : (a b : List ℕ) (value : ℕ) → SpellsUnsigned a value → SpellsUnsigned b value → length a ≡ length b → a ≡ b

-- the same of signed numbers
pub record SignedSpellings : Type 0 where
  pub no_shorter : (bytes : List ℕ) (value : ℤ) → SpellsSigned bytes value → least_signed_len value ≤ length bytes
  pub each_len : (value : ℤ) (len : ℕ) → least_signed_len value ≤ len → (bytes : List ℕ) × SpellsSigned bytes value × (length bytes ≡ len)
  pub one_a_len : (a b : List ℕ) (value : ℤ) → SpellsSigned a value → SpellsSigned b value → length a ≡ length b → a ≡ b
