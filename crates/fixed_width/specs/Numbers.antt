-- Numbers of a fixed number of bytes, the lowest byte first, as little-endian files have them.
use Rattle.std.specs.Prelude.{ℕ, List, drop}
use Rattle.byteorder.specs.Endian.{little_number}

-- the number in the first n bytes
unfoldable pub number : ℕ → List ℕ → ℕ
number n bytes = little_number n bytes

-- the number in the n bytes from a place on
abbrev pub number_at : ℕ → ℕ → List ℕ → ℕ
number_at n at bytes = number n (drop at bytes)
