-- Whole numbers by their sign and their bits.
use Rattle.std.specs.Prelude.{◌≡◌, ℕ, ℤ, pos, negsuc, Bool, true, false, refl}
use Rattle.form_codec.specs.declared.whole.Whole.TheInside.{Inside}

-- the bits of a number below 0 are those of -1 less the number
abbrev pub whole_of : Bool → ℕ → ℤ
whole_of true bits = negsuc bits
whole_of false bits = pos bits

-- the sign and the bits of a number
abbrev pub parts_of : ℤ → Inside
parts_of (pos n) = record { negative = false; bits = n }
parts_of (negsuc n) = record { negative = true; bits = n }

-- they give the number back
pub parts_back : (negative : Bool) (bits : ℕ) → parts_of (whole_of negative bits) ≡ record { negative = negative; bits = bits }
parts_back true bits = refl
parts_back false bits = refl
