-- Where the bytes of expressions end, and how many each has.
use Rattle.std.proofs.Common.{◌≡◌, ◌≤◌, ◌<◌, ◌-◌, ℕ, zero, suc, List, [], ◌∷◌, length, get_or, ap, refl, arith}
use Rattle.spelled.proofs.Parts.{length_part}
use Rattle.unit_write.specs.NewExpressions.{begin_of, lens_from, lens_of, made_of}
use Rattle.unit_write.specs.Moved.{NewValues}
use Rattle.unit_write.specs.inside.Puts.{AreNew}

pub lens_len : (begin : ℕ) (ends : List ℕ) → length (lens_from begin ends) ≡ length ends
lens_len begin [] = refl
lens_len begin (end ∷ ends) = ap suc (lens_len end ends)

lens_from_at : (begin : ℕ) (ends : List ℕ) (k : ℕ) → get_or (lens_from begin ends) k 0 ≡ get_or ends k 0 - get_or (begin ∷ ends) k 0
lens_from_at begin [] zero = omega arith
lens_from_at begin [] (suc k) = omega arith
lens_from_at begin (end ∷ ends) zero = refl
lens_from_at begin (end ∷ ends) (suc k) = lens_from_at end ends k

-- how many bytes the expression of a value has
pub len_at : (ends : List ℕ) (k : ℕ) → get_or (lens_of ends) k 0 ≡ get_or ends k 0 - begin_of ends k
len_at ends k = lens_from_at 0 ends k

pub made_len : (new : NewValues) (count k : ℕ) → AreNew new count → k < count → length (made_of new.ends new.expressions k) ≡ get_or (lens_of new.ends) k 0
made_len new count k h lt =
    let begin : ℕ = begin_of new.ends k in
    let end : ℕ = get_or new.ends k 0 in
    let rising : begin ≤ end = h.rising k lt in
    let inside : end ≤ length new.expressions = h.inside k lt in
    let own : length (made_of new.ends new.expressions k) ≡ end - begin = length_part begin (end - begin) new.expressions (omega arith) in
    let len : get_or (lens_of new.ends) k 0 ≡ end - begin = len_at new.ends k in
    omega arith
