-- Numbers in a file.
use Rattle.std.specs.Prelude.{ℕ, List, drop}
use Rattle.byteorder.specs.Endian.{little_number}

-- the number in the n bytes from a place on, the lowest byte first
unfoldable pub number_at : ℕ → ℕ → List ℕ → ℕ
number_at n place file = little_number n (drop place file)
