-- Bytes that begin with a number in its fewest bytes don't begin with one that has a byte too many.
use Rattle.std.proofs.Common.{◌≡◌, ◌≤◌, ◌<◌, ◌-◌, ◌++◌, ◌∙◌, false, ℕ, List, length, sym, ap, subst, arith}
use Rattle.std.specs.Prelude.{ℤ}
use Rattle.std.proofs.lemmas.List.{append_assoc, append_cancel_left}
use Rattle.spelled.specs.Spelled.{HasUniqueFronts}
use Rattle.leb_codec.specs.Leb.{weighed, signed_weighed, SpellsUnsigned, SpellsSigned, ShortestUnsigned, ShortestSigned, least_unsigned_len, least_signed_len}
use Rattle.leb_codec.specs.inside.Digits.{digits_of}
use Rattle.leb_codec.proofs.Fronts.{leb_front}
use Rattle.leb_codec.proofs.Lens.{least_unsigned, least_signed}
use Rattle.leb_codec.proofs.SpellingLaws.{digits_spell, len_digits, signed_spelling}
use Rattle.tidy_numbers.specs.Fronts.{BeginsLong, BeginsLongSigned, Behind}

-- bytes whose front has two parts
pub in_parts : (bytes a x p c : List ℕ) → bytes ≡ a ++ x → a ≡ p ++ c → bytes ≡ p ++ (c ++ x)
in_parts bytes a x p c whole parts = whole ∙ ap (λ (z : List ℕ). z ++ x) parts ∙ append_assoc p c x

-- the number at the front has no more bytes than it needs
pub few_not_long : (n : ℕ) (a x bytes : List ℕ) → SpellsUnsigned a n → length a ≤ least_unsigned_len n → bytes ≡ a ++ x → BeginsLong bytes → ⊥
few_not_long n a x bytes s few whole long =
    let same : a ≡ long.first = leb_front a long.first x long.rest s.0 long.spelled.0.0 (sym whole ∙ long.whole) in
    let value : n ≡ long.number = s.1 ∙ ap (weighed 0) same ∙ sym long.spelled.0.1 in
    let size : length a ≡ length long.first = ap length same in
    let least : least_unsigned_len n ≡ least_unsigned_len long.number = ap least_unsigned_len value in
    let more : least_unsigned_len long.number < length long.first = long.long in
    omega (arith, few, size, least, more)

-- nor has a number with a sign
pub few_not_long_signed : (v : ℤ) (a x bytes : List ℕ) → SpellsSigned a v → length a ≤ least_signed_len v → bytes ≡ a ++ x → BeginsLongSigned bytes → ⊥
few_not_long_signed v a x bytes s few whole long =
    let same : a ≡ long.first = leb_front a long.first x long.rest s.0 long.spelled.0.0 (sym whole ∙ long.whole) in
    let value : v ≡ long.number = s.1 ∙ ap signed_weighed same ∙ sym long.spelled.0.1 in
    let size : length a ≡ length long.first = ap length same in
    let least : least_signed_len v ≡ least_signed_len long.number = ap least_signed_len value in
    let more : least_signed_len long.number < length long.first = long.long in
    omega (arith, few, size, least, more)

-- the shortest bytes of a number are no more than it needs
pub shortest_not_long : (n : ℕ) (a x bytes : List ℕ) → ShortestUnsigned n a → bytes ≡ a ++ x → BeginsLong bytes → ⊥
shortest_not_long n a x bytes s whole long = few_not_long n a x bytes s.0 (omega (arith, s.1)) whole long

pub shortest_not_long_signed : (v : ℤ) (a x bytes : List ℕ) → ShortestSigned v a → bytes ≡ a ++ x → BeginsLongSigned bytes → ⊥
shortest_not_long_signed v a x bytes s whole long = few_not_long_signed v a x bytes s.0 (omega (arith, s.1)) whole long

-- each number has bytes without one too many
pub shortest_there : (n : ℕ) → (bytes : List ℕ) × ShortestUnsigned n bytes
shortest_there n =
    let enough = (least_unsigned n).enough in
    (digits_of false (least_unsigned_len n - 1) n, (digits_spell n (least_unsigned_len n) enough, len_digits false n (least_unsigned_len n) enough.some))

pub shortest_signed_there : (v : ℤ) → (bytes : List ℕ) × ShortestSigned v bytes
shortest_signed_there v = let (bytes, spelled, size) = signed_spelling v (least_signed_len v) (least_signed v).enough in (bytes, (spelled, size))

-- what holds behind a thing holds of the bytes behind the thing that is there
pub behind_this : {V : Type 0} (S : V → List ℕ → Type 0) (Holds : V → ℕ → List ℕ → Type 0) → HasUniqueFronts S → (v : V) (at : ℕ) (a x bytes : List ℕ) → S v a → bytes ≡ a ++ x → Behind S Holds at bytes → (inner : ℕ) × Holds v inner x
behind_this S Holds once v at a x bytes s whole (w, first, rest, inner, t, holds, parts, place) =
    let one = once v w a first x rest s t (sym whole ∙ parts) in
    let left : x ≡ rest = append_cancel_left first x rest (ap (λ z. z ++ x) (sym one.0) ∙ sym whole ∙ parts) in
    (inner, subst (λ (z : List ℕ). Holds v inner z) (sym left) (subst (λ z. Holds z inner rest) (sym one.1) holds))
