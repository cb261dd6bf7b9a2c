-- LEB128 (DWARF 5 section 7.6): seven bits a byte, the low ones first. Bit 7 of a byte says that another follows.
use Rattle.std.specs.Prelude.{◌≡◌, ◌≤◌, ◌<◌, ◌+◌, ◌-◌, ◌*◌, ◌%◌, ◌^◌, ℕ, zero, suc, List, [], ◌∷◌, length, take, slice_index, Bool, nat_le, nat_lt, if◌then◌else◌, ℤ, pos, negsuc, neg_ℤ, ◌≤ℤ◌, ◌<ℤ◌, ◌-ℤ◌, FitsSigned}
use Rattle.std.specs.Int.{w64}

-- the sum of (byte mod 128) * 128 ^ i, where i counts the bytes from a start on
abbrev pub weighed : ℕ → List ℕ → ℕ
weighed i [] = 0
weighed i (byte ∷ bytes) = (byte % 128) * 128 ^ i + weighed (suc i) bytes

-- there is a last byte, and it alone has bit 7 clear
pub record IsLeb (bytes : List ℕ) : Type 0 where
  pub filled : 0 < length bytes
  pub byte : (k : ℕ) → k < length bytes → slice_index bytes k < 256
  pub more : (k : ℕ) → k + 1 < length bytes → 128 ≤ slice_index bytes k
  pub last : (k : ℕ) → k + 1 ≡ length bytes → slice_index bytes k < 128

-- the bytes spell this number, with padding or without
abbrev pub SpellsUnsigned : List ℕ → ℕ → Type 0
SpellsUnsigned bytes value = IsLeb bytes × (value ≡ weighed 0 bytes)

-- bit 6 of the last byte, the sign
abbrev pub is_negative : List ℕ → Bool
is_negative bytes = nat_le 64 (slice_index bytes (length bytes - 1) % 128)

-- a signed number from its sum and the power that its sign takes off
abbrev pub signed_of : Bool → ℕ → ℕ → ℤ
signed_of negative weight power = if negative then pos weight -ℤ pos power else pos weight

-- the sum, less 128 ^ k for k bytes where the sign is set
abbrev pub signed_weighed : List ℕ → ℤ
signed_weighed bytes =
    signed_of (is_negative bytes) (weighed 0 bytes) (128 ^ length bytes)

-- the bytes spell this signed number, with padding or without
abbrev pub SpellsSigned : List ℕ → ℤ → Type 0
SpellsSigned bytes value = IsLeb bytes × (value ≡ signed_weighed bytes)

-- the bytes spell this number, which fits 64 bits
abbrev pub Uleb : ℕ → List ℕ → Type 0
Uleb value bytes = SpellsUnsigned bytes value × (value < 2 ^ 64)

-- the bytes spell this signed number, which fits 64 bits
abbrev pub Sleb : ℤ → List ℕ → Type 0
Sleb value bytes = SpellsSigned bytes value × FitsSigned w64 value

-- the bytes end inside a number: none has bit 7 clear
abbrev pub IsShort : List ℕ → Type 0
IsShort bytes = (k : ℕ) → k < length bytes → 128 ≤ slice_index bytes k

-- the bytes begin with those of a number that doesn't fit 64 bits
abbrev pub IsWideUnsigned : List ℕ → Type 0
IsWideUnsigned bytes = (len : ℕ) × (len ≤ length bytes) × IsLeb (take len bytes) × (2 ^ 64 ≤ weighed 0 (take len bytes))

-- the bytes begin with those of a signed number that doesn't fit 64 bits
abbrev pub IsWideSigned : List ℕ → Type 0
IsWideSigned bytes = (len : ℕ) × (len ≤ length bytes) × IsLeb (take len bytes) × (¬ FitsSigned w64 (signed_weighed (take len bytes)))

-- so many bytes are enough for a number
pub record FitsUnsignedLen (value len : ℕ) : Type 0 where
  pub some : 1 ≤ len
  pub below : value < 128 ^ len

-- so many bytes are enough for a signed number
pub record FitsSignedLen (value : ℤ) (len : ℕ) : Type 0 where
  pub some : 1 ≤ len
  pub from : neg_ℤ (pos (64 * 128 ^ (len - 1))) ≤ℤ value
  pub below : value <ℤ pos (64 * 128 ^ (len - 1))

-- the least number of bytes that are enough for a number
pub record IsLeastUnsignedLen (value len : ℕ) : Type 0 where
  pub enough : FitsUnsignedLen value len
  pub least : (k : ℕ) → FitsUnsignedLen value k → len ≤ k

-- the least number of bytes that are enough for a signed number
pub record IsLeastSignedLen (value : ℤ) (len : ℕ) : Type 0 where
  pub enough : FitsSignedLen value len
  pub least : (k : ℕ) → FitsSignedLen value k → len ≤ k

-- the first number from k on at which value < 128 ^ k, sought for some steps
unfoldable pub len_from : ℕ → ℕ → ℕ → ℕ
len_from zero k value = k
len_from (suc steps) k value = if nat_lt value (128 ^ k) then k else len_from steps (suc k) value

-- the least number of bytes that are enough for a number, as a function: IsLeastUnsignedLen holds of it
unfoldable pub least_unsigned_len : ℕ → ℕ
least_unsigned_len value = len_from value 1 value

-- how far a signed number is from 0, or from -1 where it is below 0
abbrev pub magnitude : ℤ → ℕ
magnitude (pos n) = n
magnitude (negsuc n) = n

-- the least number of bytes that are enough for a signed number, as a function: IsLeastSignedLen holds of it.
-- The sign takes a bit more than the magnitude.
unfoldable pub least_signed_len : ℤ → ℕ
least_signed_len value = least_unsigned_len (2 * magnitude value)

-- the shortest bytes of a number, which writers give
abbrev pub ShortestUnsigned : ℕ → List ℕ → Type 0
ShortestUnsigned value bytes = SpellsUnsigned bytes value × (length bytes ≡ least_unsigned_len value)

-- the shortest bytes of a signed number, which writers give
abbrev pub ShortestSigned : ℤ → List ℕ → Type 0
ShortestSigned value bytes = SpellsSigned bytes value × (length bytes ≡ least_signed_len value)

-- so many bytes of a number
abbrev pub PaddedUnsigned : ℕ → ℕ → List ℕ → Type 0
PaddedUnsigned size value bytes = SpellsUnsigned bytes value × (length bytes ≡ size)
