-- Parts of bytes.
use Rattle.std.proofs.Common.{◌≡◌, ◌<◌, ◌+◌, ℕ, suc, List, ◌∷◌, length, take, drop, add-one, ◌∙◌, sym, ap, arith}
use Rattle.std.proofs.Math.Seq.{drop-cons}
use Rattle.std.specs.Prelude.{slice_index}
use Rattle.byteorder.specs.Numbers.{little_from-take}
use Rattle.fixed_width.specs.Numbers.{number, number_at}

-- the first of what is left, and the rest
pub first_at : (at : ℕ) (l : List ℕ) → at < length l → drop at l ≡ slice_index l at ∷ drop (at + 1) l
first_at at l h = drop-cons l at 0 h ∙ ap (λ n. slice_index l at ∷ drop n l) (sym (add-one at))

-- the same of a part
pub part_from : (at n : ℕ) (l : List ℕ) → at < length l → take (suc n) (drop at l) ≡ slice_index l at ∷ take n (drop (at + 1) l)
part_from at n l h = ap (take (suc n)) (first_at at l h)

-- a number is that of the part in which it stands
pub number_part : (n at : ℕ) (l : List ℕ) → number_at n at l ≡ number_at n 0 (take n (drop at l))
unfolding number
number_part n at l = sym (little_from-take 0 n n (drop at l) (omega arith))
