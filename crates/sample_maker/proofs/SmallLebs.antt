-- The shortest LEB128 bytes of small numbers.
use Rattle.std.proofs.Common.{◌≡◌, ◌≤◌, ◌<◌, ◌+◌, ◌-◌, ◌*◌, ◌/◌, ◌%◌, ℕ, zero, suc, List, [], ◌∷◌, true, false, ltb, ◌∙◌, sym, ap, refl, subst, arith}
use Rattle.std.specs.Prelude.{ℤ, pos, negsuc}
use Rattle.std.proofs.lemmas.Bool.{cond_both, ltb-true, ltb-false}
use Rattle.leb_codec.specs.Leb.{SpellsSigned, ShortestUnsigned, ShortestSigned, FitsUnsignedLen, least_unsigned_len}
use Rattle.leb_codec.specs.inside.Digits.{digits_of}
use Rattle.leb_codec.proofs.Lens.{only_unsigned, halved, len_by_magnitude}
use Rattle.leb_codec.proofs.SpellingLaws.{leb_one, leb_cons, unsigned_spellings, signed_spellings, digits_spell_from_0, digits_spell_below_0}
use Rattle.sample_maker.specs.inside.Bytes.{uleb, sleb}

-- how many bytes a number needs

high_one : (k n : ℕ) → 128 ≤ n → FitsUnsignedLen n k → 2 ≤ k
high_one zero n high fits = absurd (omega (arith, fits.some))
high_one (suc zero) n high fits = absurd (omega (arith, high, fits.below))
high_one (suc (suc k)) n high fits = omega arith

high_two : (k n : ℕ) → 16384 ≤ n → FitsUnsignedLen n k → 3 ≤ k
high_two zero n high fits = absurd (omega (arith, fits.some))
high_two (suc zero) n high fits = absurd (omega (arith, high, fits.below))
high_two (suc (suc zero)) n high fits = absurd (omega (arith, high, fits.below))
high_two (suc (suc (suc k))) n high fits = omega arith

len_one : (n : ℕ) → n < 128 → 1 ≡ least_unsigned_len n
len_one n small = only_unsigned n 1 (record { enough = record { some = omega arith; below = small }; least = λ k fits. fits.some })

len_two : (n : ℕ) → 128 ≤ n → n < 16384 → 2 ≡ least_unsigned_len n
len_two n high small = only_unsigned n 2 (record { enough = record { some = omega arith; below = small }; least = λ k fits. high_one k n high fits })

len_three : (n : ℕ) → 16384 ≤ n → n < 2097152 → 3 ≡ least_unsigned_len n
len_three n high small = only_unsigned n 3 (record { enough = record { some = omega arith; below = small }; least = λ k fits. high_two k n high fits })

-- unsigned numbers

one_byte : (n : ℕ) → n < 128 → ShortestUnsigned n (n ∷ [])
one_byte n small = ((leb_one n small, omega arith), len_one n small)

two_bytes : (n : ℕ) → 128 ≤ n → n < 16384 → ShortestUnsigned n ((128 + n % 128) ∷ n / 128 ∷ [])
two_bytes n high small = ((leb_cons (128 + n % 128) (n / 128 ∷ []) (omega arith) (omega arith) (leb_one (n / 128) (omega arith)), omega arith), len_two n high small)

three_bytes : (n : ℕ) → 16384 ≤ n → n < 2097152 → ShortestUnsigned n ((128 + n % 128) ∷ (128 + n / 128 % 128) ∷ n / 16384 ∷ [])
three_bytes n high small = ((leb_cons (128 + n % 128) ((128 + n / 128 % 128) ∷ n / 16384 ∷ []) (omega arith) (omega arith) (leb_cons (128 + n / 128 % 128) (n / 16384 ∷ []) (omega arith) (omega arith) (leb_one (n / 16384) (omega arith))), omega arith), len_three n high small)

pub uleb_shortest : (n : ℕ) → n < 2097152 → ShortestUnsigned n (uleb n)
unfolding uleb
uleb_shortest n small =
    cond_both (ltb n 128) (n ∷ []) _ (λ (bytes : List ℕ). ShortestUnsigned n bytes) (λ e. one_byte n (ltb-true n 128 e)) (λ e.
    let high : 128 ≤ n = ltb-false n 128 e in
    cond_both (ltb n 16384) ((128 + n % 128) ∷ n / 128 ∷ []) ((128 + n % 128) ∷ (128 + n / 128 % 128) ∷ n / 16384 ∷ []) (λ (bytes : List ℕ). ShortestUnsigned n bytes) (λ f. two_bytes n high (ltb-true n 16384 f)) (λ f. three_bytes n (ltb-false n 16384 f) small))

-- no other bytes are the shortest
pub shortest_uleb : (n : ℕ) (bytes : List ℕ) → n < 2097152 → ShortestUnsigned n bytes → bytes ≡ uleb n
shortest_uleb n bytes small s =
    let u = uleb_shortest n small in
    unsigned_spellings.one_a_len bytes (uleb n) n s.0 u.0 (s.1 ∙ sym u.1)

-- signed numbers

one_digit : (n : ℕ) → n < 64 → digits_of false 0 n ≡ n ∷ []
one_digit n small = let e : n % 128 ≡ n = omega arith in ap (λ (b : ℕ). b ∷ []) e

two_digits : (n : ℕ) → n < 8192 → digits_of false 1 n ≡ (128 + n % 128) ∷ n / 128 ∷ []
two_digits n small = let e : n / 128 % 128 ≡ n / 128 = omega arith in ap (λ (b : ℕ). (128 + n % 128) ∷ b ∷ []) e

lacking_digit : (n : ℕ) → n < 64 → digits_of true 0 n ≡ (127 - n) ∷ []
lacking_digit n small = let e : 127 - n % 128 ≡ 127 - n = omega arith in ap (λ (b : ℕ). b ∷ []) e

fits_one : (n : ℕ) → n < 64 → FitsUnsignedLen (2 * n) 1
fits_one n small = record { some = omega arith; below = omega arith }

fits_two : (n : ℕ) → n < 8192 → FitsUnsignedLen (2 * n) 2
fits_two n small = record { some = omega arith; below = omega arith }

positive_one : (n : ℕ) → n < 64 → ShortestSigned (pos n) (n ∷ [])
positive_one n small =
    (subst (λ (b : List ℕ). SpellsSigned b (pos n)) (one_digit n small) (digits_spell_from_0 n 1 (halved (pos n) 1 (fits_one n small))), len_by_magnitude 1 n (pos n) (len_one (2 * n) (omega arith)) refl)

positive_two : (n : ℕ) → 64 ≤ n → n < 8192 → ShortestSigned (pos n) ((128 + n % 128) ∷ n / 128 ∷ [])
positive_two n high small =
    (subst (λ (b : List ℕ). SpellsSigned b (pos n)) (two_digits n small) (digits_spell_from_0 n 2 (halved (pos n) 2 (fits_two n small))), len_by_magnitude 2 n (pos n) (len_two (2 * n) (omega arith) (omega arith)) refl)

negative_one : (n : ℕ) → n < 64 → ShortestSigned (negsuc n) ((127 - n) ∷ [])
negative_one n small =
    (subst (λ (b : List ℕ). SpellsSigned b (negsuc n)) (lacking_digit n small) (digits_spell_below_0 n 1 (halved (negsuc n) 1 (fits_one n small))), len_by_magnitude 1 n (negsuc n) (len_one (2 * n) (omega arith)) refl)

-- a number from -64 to 8191
abbrev pub IsSmall : ℤ → Type 0
IsSmall (pos n) = n < 8192
IsSmall (negsuc n) = n < 64

pub sleb_shortest : (v : ℤ) → IsSmall v → ShortestSigned v (sleb v)
unfolding sleb
sleb_shortest (pos n) small = cond_both (ltb n 64) (n ∷ []) ((128 + n % 128) ∷ n / 128 ∷ []) (λ (bytes : List ℕ). ShortestSigned (pos n) bytes) (λ e. positive_one n (ltb-true n 64 e)) (λ e. positive_two n (ltb-false n 64 e) small)
sleb_shortest (negsuc n) small = negative_one n small

pub shortest_sleb : (v : ℤ) (bytes : List ℕ) → IsSmall v → ShortestSigned v bytes → bytes ≡ sleb v
shortest_sleb v bytes small s =
    let u = sleb_shortest v small in
    signed_spellings.one_a_len bytes (sleb v) v s.0 u.0 (s.1 ∙ sym u.1)
