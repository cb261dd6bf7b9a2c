-- A number for each text.
-- Inner functions and proofs alone need what stands here.
use Rattle.std.specs.Prelude.{◌≡◌, ◌≤◌, ◌+◌, ◌*◌, ◌-◌, ◌/◌, ◌%◌, ◌^◌, ℕ, List, [], ◌∷◌, length, slice_index, bit_xor}
use Rattle.elf_sections.specs.Names.{text_at}

-- a number with a byte mixed into it
unfoldable pub mix : ℕ → ℕ → ℕ → ℕ
mix factor sum byte =
    let product = bit_xor sum byte * factor % 2 ^ 64 in
    bit_xor product (product / 2 ^ 32)

-- the number of a text: of none 0, and else that of all but its first byte, with that byte mixed into it
abbrev pub sum_of : ℕ → List ℕ → ℕ
sum_of factor [] = 0
sum_of factor (byte ∷ rest) = mix factor (sum_of factor rest) byte

-- the numbers of the texts from the end of the bytes on, and from each place 64 bytes before the one before
pub record AreMarks (factor : ℕ) (bytes marks : List ℕ) : Type 0 where
  pub count : length marks ≡ length bytes / 64 + 1
  pub sums : (k : ℕ) → k ≤ length bytes / 64 → slice_index marks k ≡ sum_of factor (text_at bytes (length bytes - 64 * k))
