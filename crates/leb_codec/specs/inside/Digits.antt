-- The bytes of a number's digits of seven bits, from the lowest on.
use Rattle.std.specs.Prelude.{◌≡◌, ◌+◌, ◌-◌, ◌/◌, ◌%◌, ℕ, zero, suc, List, [], ◌∷◌, Bool, if◌then◌else◌, Option, Some, None, ◌≤◌, ◌^◌}

-- the lowest digit of a number, or what it lacks to 127
abbrev pub digit_of : Bool → ℕ → ℕ
digit_of complemented rest = if complemented then 127 - rest % 128 else rest % 128

-- digits of which each says that more follow, and then the last one
abbrev pub digits_of : Bool → ℕ → ℕ → List ℕ
digits_of complemented zero rest = digit_of complemented rest ∷ []
digits_of complemented (suc more) rest = (128 + digit_of complemented rest) ∷ digits_of complemented more (rest / 128)

-- a sum that is known, or doesn't fit 64 bits
abbrev pub IsSum : Option ℕ → ℕ → Type 0
IsSum None total = 2 ^ 64 ≤ total
IsSum (Some sum) total = sum ≡ total
