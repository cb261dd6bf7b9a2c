-- Laws of the least lengths.
use Rattle.std.proofs.Common.{◌≡◌, ◌≤◌, ◌<◌, ◌+◌, ◌-◌, ◌*◌, ◌^◌, ℕ, zero, suc, ltb, arith, ap, ◌∙◌, subst, inl, inr}
use Rattle.std.specs.Prelude.{ℤ, pos, negsuc, neg_ℤ, ◌≤ℤ◌, ◌<ℤ◌, ◌+ℤ◌}
use Rattle.std.proofs.lemmas.Bool.{cases_lt, cond_both, ltb-true, ltb-false}
use Rattle.std.proofs.lemmas.Int.{ints}
use Rattle.std.proofs.lemmas.Nat.{pow-add}
use Rattle.std.proofs.Math.Nat.{pow-succ', mul-le-mul_right}
use Rattle.leb_codec.specs.Leb.{FitsUnsignedLen, FitsSignedLen, IsLeastUnsignedLen, IsLeastSignedLen, len_from, least_unsigned_len, least_signed_len, magnitude}
use Rattle.leb_codec.specs.LebLaws.{UnsignedLens, SignedLens}
use Rattle.leb_codec.proofs.Lebs.{pow128}

found : (steps k value : ℕ) → 1 ≤ k → value < 128 ^ (k + steps) → ((j : ℕ) → 1 ≤ j → j < k → 128 ^ j ≤ value) → IsLeastUnsignedLen value (len_from steps k value)
unfolding len_from
found zero k value one enough none =
    let e : k + 0 ≡ k = omega arith in
    record {
      enough = record { some = one; below = subst (λ (n : ℕ). value < 128 ^ n) e enough };
      least = λ j f. elim (cases_lt j k) [ inl few ↦ absurd (omega (arith, f.below, none j f.some few)) | inr many ↦ many ];
    }
found (suc steps) k value one enough none =
    cond_both (ltb value (128 ^ k)) k (len_from steps (suc k) value) (λ n. IsLeastUnsignedLen value n)
    (λ e. record {
      enough = record { some = one; below = ltb-true value (128 ^ k) e };
      least = λ j f. elim (cases_lt j k) [ inl few ↦ absurd (omega (arith, f.below, none j f.some few)) | inr many ↦ many ];
    })
    (λ e.
    let n : k + suc steps ≡ suc k + steps = omega arith in
    let large : 128 ^ k ≤ value = ltb-false value (128 ^ k) e in
    found steps (suc k) value (omega arith) (subst (λ (n : ℕ). value < 128 ^ n) n enough) (λ j some below.
    elim (cases_lt j k) [ inl few ↦ none j some few | inr many ↦ let same : k ≡ j = omega arith in subst (λ (n : ℕ). 128 ^ n ≤ value) same large ]))

below_power : (n : ℕ) → n < 128 ^ n
below_power zero = omega arith
below_power (suc n) = rw (pow-succ' 128 n) (omega (arith, below_power n))

pub least_unsigned : (value : ℕ) → IsLeastUnsignedLen value (least_unsigned_len value)
unfolding least_unsigned_len
least_unsigned value =
    let more : 128 ^ value ≤ 128 ^ (1 + value) = pow128 value (1 + value) (omega arith) in
    found value 1 value (omega arith) (omega (arith, below_power value, more)) (λ j some few. absurd (omega arith))

pub only_unsigned : (value len : ℕ) → IsLeastUnsignedLen value len → len ≡ least_unsigned_len value
only_unsigned value len h =
    let l = least_unsigned value in
    let le = h.least (least_unsigned_len value) l.enough in
    let ge = l.least len h.enough in
    omega (arith, le, ge)

pub more_unsigned : (value m n : ℕ) → m ≤ n → FitsUnsignedLen value m → FitsUnsignedLen value n
more_unsigned value m n h f = record { some = omega (arith, f.some); below = omega (arith, f.below, pow128 m n h) }

pub fits_unsigned : (value len : ℕ) → least_unsigned_len value ≤ len → FitsUnsignedLen value len
fits_unsigned value len h = more_unsigned value (least_unsigned_len value) len h (least_unsigned value).enough

pub least_below : (value len : ℕ) → FitsUnsignedLen value len → least_unsigned_len value ≤ len
least_below value len f = (least_unsigned value).least len f

-- powers of m and n bytes, added
powers_sum : (m n : ℕ) → 1 ≤ m → 1 ≤ n → 128 ^ m + 128 ^ n ≤ 128 ^ (m + n)
powers_sum m n one two =
    let x : 128 ≤ 128 ^ m = pow128 1 m one in
    let y : 128 ≤ 128 ^ n = pow128 1 n two in
    let p : 128 * 128 ^ n ≤ 128 ^ m * 128 ^ n = mul-le-mul_right (128 ^ n) x in
    let q : 128 * 128 ^ m ≤ 128 ^ n * 128 ^ m = mul-le-mul_right (128 ^ m) y in
    rw (pow-add 128 m n) (omega arith)

pub fits_sum : (a b m n : ℕ) → FitsUnsignedLen a m → FitsUnsignedLen b n → FitsUnsignedLen (a + b) (m + n)
fits_sum a b m n f g = record {
  some = omega (arith, f.some);
  below = omega (arith, f.below, g.below, powers_sum m n f.some g.some);
}

pub unsigned_lens : UnsignedLens
unsigned_lens = record {
  is_least = least_unsigned;
  only = only_unsigned;
  enough = λ value len. (least_below value len, fits_unsigned value len);
  rises = λ v w h. let f = (least_unsigned w).enough in least_below v (least_unsigned_len w) (record { some = f.some; below = omega (arith, f.below) });
  sum = λ v w. least_below (v + w) (least_unsigned_len v + least_unsigned_len w) (fits_sum v w (least_unsigned_len v) (least_unsigned_len w) (least_unsigned v).enough (least_unsigned w).enough);
}

-- half of a power
pub half_power : (k : ℕ) → 1 ≤ k → 128 ^ k ≡ 2 * (64 * 128 ^ (k - 1))
half_power k one =
    let e : k ≡ suc (k - 1) = omega arith in
    ap (λ n. 128 ^ n) e ∙ pow-succ' 128 (k - 1) ∙ omega arith

-- a magnitude between the bounds that a sign leaves
pub magnitude_below : (value : ℤ) (m : ℕ) → neg_ℤ (pos m) ≤ℤ value → value <ℤ pos m → magnitude value < m
magnitude_below (pos n) m from below = omega (arith, ints)
magnitude_below (negsuc n) m from below = omega (arith, ints)

pub magnitude_from : (value : ℤ) (m : ℕ) → magnitude value < m → neg_ℤ (pos m) ≤ℤ value
magnitude_from (pos n) m below = omega (arith, ints)
magnitude_from (negsuc n) m below = omega (arith, ints)

pub magnitude_to : (value : ℤ) (m : ℕ) → magnitude value < m → value <ℤ pos m
magnitude_to (pos n) m below = omega (arith, ints)
magnitude_to (negsuc n) m below = omega (arith, ints)

pub doubled : (value : ℤ) (len : ℕ) → FitsSignedLen value len → FitsUnsignedLen (2 * magnitude value) len
doubled value len f =
    let h = magnitude_below value (64 * 128 ^ (len - 1)) f.from f.below in
    record { some = f.some; below = omega (arith, h, half_power len f.some) }

pub halved : (value : ℤ) (len : ℕ) → FitsUnsignedLen (2 * magnitude value) len → FitsSignedLen value len
halved value len f =
    let h : magnitude value < 64 * 128 ^ (len - 1) = omega (arith, f.below, half_power len f.some) in
    record { some = f.some; from = magnitude_from value (64 * 128 ^ (len - 1)) h; below = magnitude_to value (64 * 128 ^ (len - 1)) h }

pub least_signed : (value : ℤ) → IsLeastSignedLen value (least_signed_len value)
unfolding least_signed_len
least_signed value =
    let l = least_unsigned (2 * magnitude value) in
    record {
      enough = halved value (least_unsigned_len (2 * magnitude value)) l.enough;
      least = λ k f. l.least k (doubled value k f);
    }

pub only_signed : (value : ℤ) (len : ℕ) → IsLeastSignedLen value len → len ≡ least_signed_len value
only_signed value len h =
    let l = least_signed value in
    let le = h.least (least_signed_len value) l.enough in
    let ge = l.least len h.enough in
    omega (arith, le, ge)

pub least_below_signed : (value : ℤ) (len : ℕ) → FitsSignedLen value len → least_signed_len value ≤ len
least_below_signed value len f = (least_signed value).least len f

pub fits_signed : (value : ℤ) (len : ℕ) → least_signed_len value ≤ len → FitsSignedLen value len
fits_signed value len h =
    halved value len (more_unsigned (2 * magnitude value) (least_signed_len value) len h (doubled value (least_signed_len value) (least_signed value).enough))

-- half powers of m and n bytes, added
halves_sum : (m n : ℕ) → 1 ≤ m → 1 ≤ n → 64 * 128 ^ (m - 1) + 64 * 128 ^ (n - 1) ≤ 64 * 128 ^ (m + n - 1)
halves_sum m n one two =
    let e : m + n - 1 ≡ suc ((m - 1) + (n - 1)) = omega arith in
    let x : 1 ≤ 128 ^ (m - 1) = pow128 0 (m - 1) (omega arith) in
    let y : 1 ≤ 128 ^ (n - 1) = pow128 0 (n - 1) (omega arith) in
    let p : 1 * 128 ^ (n - 1) ≤ 128 ^ (m - 1) * 128 ^ (n - 1) = mul-le-mul_right (128 ^ (n - 1)) x in
    let q : 1 * 128 ^ (m - 1) ≤ 128 ^ (n - 1) * 128 ^ (m - 1) = mul-le-mul_right (128 ^ (m - 1)) y in
    rw (e, pow-succ' 128 ((m - 1) + (n - 1)), pow-add 128 (m - 1) (n - 1)) (omega arith)

pub fits_sum_signed : (a b : ℤ) (m n : ℕ) → FitsSignedLen a m → FitsSignedLen b n → FitsSignedLen (a +ℤ b) (m + n)
fits_sum_signed a b m n f g =
    let h = halves_sum m n f.some g.some in
    record {
      some = omega (arith, f.some);
      from = omega (arith, ints, f.from, g.from, h);
      below = omega (arith, ints, f.below, g.below, h);
    }

pub signed_lens : SignedLens
signed_lens = record {
  is_least = least_signed;
  only = only_signed;
  enough = λ value len. (least_below_signed value len, fits_signed value len);
  rises = λ v w h.
      let f = doubled w (least_signed_len w) (least_signed w).enough in
      least_below_signed v (least_signed_len w) (halved v (least_signed_len w) (record { some = f.some; below = omega (arith, f.below) }));
  sum = λ v w. least_below_signed (v +ℤ w) (least_signed_len v + least_signed_len w) (fits_sum_signed v w (least_signed_len v) (least_signed_len w) (least_signed v).enough (least_signed w).enough);
}

-- a length by twice the magnitude
pub len_by_magnitude : (len m : ℕ) (value : ℤ) → len ≡ least_unsigned_len (2 * m) → m ≡ magnitude value → len ≡ least_signed_len value
unfolding least_signed_len
len_by_magnitude len m value e f = e ∙ ap (λ n. least_unsigned_len (2 * n)) f
