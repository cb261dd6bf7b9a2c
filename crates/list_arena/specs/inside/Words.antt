-- Numbers held in 32 bits: those below 2^31 as they are, and a longer one by its number among those that are held whole.
use Rattle.std.specs.Prelude.{◌≡◌, ◌<◌, ◌+◌, ◌-◌, ◌^◌, ℕ, List, length, slice_index, nat_lt, if◌then◌else◌}

abbrev pub first_long : ℕ
first_long = 2 ^ 31

-- the number of a word, where these are held whole
unfoldable pub word_held : List ℕ → ℕ → ℕ
word_held long word = if nat_lt word first_long then word else slice_index long (word - first_long)

-- a word is a number by itself, or names one of those that are held whole
abbrev pub IsWord : List ℕ → ℕ → Type 0
IsWord long word = word < first_long + length long

-- more may be held whole: each word stays one, of the same number
pub record GrowsTo (old new : List ℕ) : Type 0 where
  pub words : (word : ℕ) → IsWord old word → IsWord new word
  pub same : (word : ℕ) → IsWord old word → word_held new word ≡ word_held old word
