-- Pieces of bytes that stand one after the other, by their ends.
use Rattle.std.proofs.Common.{◌≡◌, ◌≤◌, ◌<◌, ◌+◌, ◌-◌, ◌∙◌, ℕ, zero, suc, List, [], ◌∷◌, length, get_or, take, drop, sym, ap, refl, subst, arith}
use Rattle.std.specs.List.{sum_by}
use Rattle.std.proofs.lemmas.List.{drop_more, length-take-le, length-drop}
use Rattle.std.proofs.lemmas.List.Sums.{sum_by-cons}
use Rattle.leb_codec.specs.Leb.{least_unsigned_len}
use Rattle.list_write.specs.Written.{pieces, EndsRise, behind_size}

-- where the piece with a number begins
abbrev pub start_at : ℕ → List ℕ → ℕ → ℕ
start_at from ends zero = from
start_at from [] (suc k) = from
start_at from (end ∷ ends) (suc k) = start_at end ends k

-- it is the end of the one before it
start_next : (from : ℕ) (ends : List ℕ) (k d : ℕ) → k < length ends → start_at from ends (suc k) ≡ get_or ends k d
start_next from (end ∷ ends) zero d inside = refl
start_next from (end ∷ ends) (suc k) d inside = start_next end ends k d (omega (arith, inside))
start_next from [] k d inside = absurd (omega (arith, inside))

pub start_before : (from : ℕ) (ends : List ℕ) (number d : ℕ) → 1 ≤ number → number < length ends → start_at from ends number ≡ get_or ends (number - 1) d
start_before from ends zero d some inside = absurd (omega (arith, some))
start_before from ends (suc k) d some inside =
    let e : k ≡ suc k - 1 = omega arith in
    start_next from ends k d (omega (arith, inside)) ∙ ap (λ (z : ℕ). get_or ends z d) e

-- a piece begins before its end, which is inside
pub piece_inside : (from : ℕ) (ends : List ℕ) (most number d : ℕ) → EndsRise from ends most → number < length ends → (start_at from ends number ≤ get_or ends number d) × (get_or ends number d ≤ most)
piece_inside from (end ∷ ends) most zero d rise inside = (rise.0, rise.1)
piece_inside from (end ∷ ends) most (suc k) d (low, high, rise) inside = piece_inside end ends most k d rise (omega (arith, inside))
piece_inside from [] most number d rise inside = absurd (omega (arith, inside))

-- the piece with a number
pub piece_at : (from : ℕ) (ends bytes : List ℕ) (number d : ℕ) → number < length ends → get_or (pieces from ends bytes) number [] ≡ take (get_or ends number d - start_at from ends number) (drop (start_at from ends number) bytes)
piece_at from (end ∷ ends) bytes zero d inside = refl
piece_at from (end ∷ ends) bytes (suc k) d inside = piece_at end ends bytes k d (omega (arith, inside))
piece_at from [] bytes number d inside = absurd (omega (arith, inside))

pub pieces_count : (from : ℕ) (ends bytes : List ℕ) → length (pieces from ends bytes) ≡ length ends
pieces_count from [] bytes = refl
pieces_count from (end ∷ ends) bytes = ap suc (pieces_count end ends bytes)

-- ---- pieces as expressions with their lengths

-- the next end of those that rise
pub rise_more : (ends : List ℕ) (i from end most : ℕ) → i < length ends → end ≡ get_or ends i end → EndsRise from (drop i ends) most → (from ≤ end) × (end ≤ most) × EndsRise end (drop (i + 1) ends) most
rise_more ends i from end most inside is rise =
    let rest : drop i ends ≡ end ∷ drop (i + 1) ends = drop_more ends i end inside ∙ ap (λ (z : ℕ). z ∷ drop (i + 1) ends) (sym is) in
    subst (λ (z : List ℕ). EndsRise from z most) rest rise

-- the bytes of one more expression
pub behind_more : (ends bytes : List ℕ) (i from end : ℕ) → i < length ends → end ≡ get_or ends i end → EndsRise from (drop i ends) (length bytes) → sum_by behind_size (pieces from (drop i ends) bytes) ≡ (least_unsigned_len (end - from) + (end - from)) + sum_by behind_size (pieces end (drop (i + 1) ends) bytes)
behind_more ends bytes i from end inside is rise =
    let rest : drop i ends ≡ end ∷ drop (i + 1) ends = drop_more ends i end inside ∙ ap (λ (z : ℕ). z ∷ drop (i + 1) ends) (sym is) in
    let more = rise_more ends i from end (length bytes) inside is rise in
    let low : from ≤ end = more.0 in
    let high : end ≤ length bytes = more.1 in
    let size : length (take (end - from) (drop from bytes)) ≡ end - from = length-take-le (end - from) (drop from bytes) (let e : length (drop from bytes) ≡ length bytes - from = length-drop from bytes in omega arith) in
    ap (λ (z : List ℕ). sum_by behind_size (pieces from z bytes)) rest ∙ sum_by-cons behind_size (take (end - from) (drop from bytes)) (pieces end (drop (i + 1) ends) bytes)
    ∙ ap (λ (z : ℕ). (least_unsigned_len z + z) + sum_by behind_size (pieces end (drop (i + 1) ends) bytes)) size
