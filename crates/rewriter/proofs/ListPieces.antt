-- Expressions that stand one after the other, each behind the one before.
use Rattle.std.proofs.Common.{◌≡◌, ◌≤◌, ◌<◌, ◌+◌, ◌-◌, ◌*◌, ◌^◌, ◌++◌, ◌∙◌, ℕ, zero, suc, List, [], ◌∷◌, length, take, drop, ap, refl, arith}
use Rattle.std.specs.List.{sum_by}
use Rattle.std.proofs.lemmas.List.{length-drop, length-take, drop-append-le}
use Rattle.std.proofs.lemmas.List.Sums.{sum_by-cons}
use Rattle.std.proofs.Math.Seq.{drop-append_seam, take-length}
use Rattle.leb_codec.specs.Leb.{least_unsigned_len}
use Rattle.leb_codec.proofs.Lens.{least_below}
use Rattle.list_write.specs.Written.{pieces, EndsRise, behind_size}

-- the ends rise from a place on up to this one, which is the last of them
abbrev pub EndAt : ℕ → List ℕ → ℕ → Type 0
EndAt from [] last = from ≡ last
EndAt from (end ∷ ends) last = (from ≤ end) × EndAt end ends last

end_most : (from : ℕ) (ends : List ℕ) (last : ℕ) → EndAt from ends last → from ≤ last
end_most from [] last is = omega (arith, is)
end_most from (end ∷ ends) last (least, rest) = omega (arith, least, end_most end ends last rest)

pub ends_rise : (from : ℕ) (ends : List ℕ) (last : ℕ) → EndAt from ends last → EndsRise from ends last
ends_rise from [] last is = tt
ends_rise from (end ∷ ends) last (least, rest) = (least, end_most end ends last rest, ends_rise end ends last rest)

-- one more end
pub end_more : (from : ℕ) (ends : List ℕ) (last next : ℕ) → EndAt from ends last → last ≤ next → EndAt from (ends ++ next ∷ []) next
end_more from [] last next is past = (omega (arith, is, past), refl)
end_more from (end ∷ ends) last next (least, rest) past = (least, end_more end ends last next rest past)

-- bytes of which a part is asked that stands in the front
part_of_front : (from count : ℕ) (bytes made : List ℕ) → from + count ≤ length bytes → take count (drop from (bytes ++ made)) ≡ take count (drop from bytes)
part_of_front from count bytes made within =
    ap (take count) (drop-append-le from bytes made (omega arith)) ∙ take_front count (drop from bytes) made (omega (arith, length-drop from bytes))
  where
    take_front : (n : ℕ) (xs ys : List ℕ) → n ≤ length xs → take n (xs ++ ys) ≡ take n xs
    take_front zero xs ys less = refl
    take_front (suc n) [] ys less = absurd (omega arith)
    take_front (suc n) (x ∷ xs) ys less = ap (λ (z : List ℕ). x ∷ z) (take_front n xs ys (omega arith))

-- what stands behind all others is one more piece
pub pieces_more : (from : ℕ) (ends bytes made : List ℕ) (next : ℕ) → EndAt from ends (length bytes) → next ≡ length bytes + length made → pieces from (ends ++ next ∷ []) (bytes ++ made) ≡ pieces from ends bytes ++ made ∷ []
pieces_more from [] bytes made next is next_is =
    let count : next - from ≡ length made = omega (arith, is, next_is) in
    let behind : drop from (bytes ++ made) ≡ made = ap (λ (z : ℕ). drop z (bytes ++ made)) is ∙ drop-append_seam bytes made in
    ap (λ (z : List ℕ). z ∷ []) (ap (λ (z : ℕ). take z (drop from (bytes ++ made))) count ∙ ap (take (length made)) behind ∙ take-length made)
pieces_more from (end ∷ ends) bytes made next (least, rest) next_is =
    let within : end ≤ length bytes = end_most end ends (length bytes) rest in
    ap (λ (z : List ℕ). z ∷ pieces end (ends ++ next ∷ []) (bytes ++ made)) (part_of_front from (end - from) bytes made (omega arith))
    ∙ ap (λ (z : List (List ℕ)). take (end - from) (drop from bytes) ∷ z) (pieces_more end ends bytes made next rest next_is)

-- ---- sizes

-- pieces have no more bytes than there are
pub pieces_most : (from : ℕ) (ends bytes : List ℕ) (most : ℕ) → EndsRise from ends most → sum_by length (pieces from ends bytes) ≤ most - from
pieces_most from [] bytes most rise = omega arith
pieces_most from (end ∷ ends) bytes most (least, within, rest) =
    omega (arith, sum_by-cons length (take (end - from) (drop from bytes)) (pieces end ends bytes), length-take (end - from) (drop from bytes), pieces_most end ends bytes most rest)

-- a length that fits 64 bits takes at most ten bytes
pub behind_most : (expressions : List (List ℕ)) → sum_by length expressions < 2 ^ 64 → sum_by behind_size expressions ≤ 10 * length expressions + sum_by length expressions
behind_most [] fits = omega arith
behind_most (e ∷ es) fits =
    let all : sum_by length (e ∷ es) ≡ length e + sum_by length es = sum_by-cons length e es in
    let one : least_unsigned_len (length e) ≤ 10 = least_below (length e) 10 (record { some = omega arith; below = omega (arith, all, fits) }) in
    omega (arith, all, one, sum_by-cons behind_size e es, behind_most es (omega (arith, all, fits)))
