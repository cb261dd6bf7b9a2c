-- Laws of spellings: a number has exactly one of each length from the least on, and none that is shorter.
use Rattle.std.proofs.Common.{◌≡◌, ◌≤◌, ◌<◌, ◌+◌, ◌-◌, ◌*◌, ◌/◌, ◌%◌, ◌^◌, ℕ, zero, suc, List, [], ◌∷◌, length, get_or, take, Bool, true, false, ◌∙◌, sym, ap, refl, subst, arith, inl, inr}
use Rattle.std.specs.Prelude.{ℤ, pos, negsuc, neg_ℤ, ◌≤ℤ◌, ◌<ℤ◌, ◌-ℤ◌, nat_le, int_lt, T}
use Rattle.std.specs.Int.Signed.{lt_z_yes}
use Rattle.std.proofs.lemmas.Int.{ints}
use Rattle.std.proofs.lemmas.List.{length-take-le, take_all}
use Rattle.std.proofs.lemmas.Bool.{cases_lt, cases_Bool, le-leb, lt-leb}
use Rattle.std.proofs.Math.Nat.{pow-succ', mul-le-mul_right}
use Rattle.leb_codec.specs.Leb.{weighed, IsLeb, SpellsUnsigned, SpellsSigned, signed_of, is_negative, FitsUnsignedLen, FitsSignedLen, magnitude}
use Rattle.leb_codec.specs.LebLaws.{UnsignedSpellings, SignedSpellings}
use Rattle.leb_codec.specs.inside.Digits.{digits_of}
use Rattle.leb_codec.proofs.Lebs.{weighed_more}
use Rattle.leb_codec.proofs.Lens.{least_below, fits_unsigned, least_below_signed, fits_signed, doubled, half_power}

-- the first byte counts once, each other 128 times as much as it would alone
weighed_shift : (i : ℕ) (bytes : List ℕ) → weighed (suc i) bytes ≡ 128 * weighed i bytes
weighed_shift i [] = refl
weighed_shift i (b ∷ bytes) =
    let p : 128 ^ suc i ≡ 128 * 128 ^ i = pow-succ' 128 i in
    let q : (b % 128) * 128 ^ suc i ≡ (b % 128) * (128 * 128 ^ i) = ap (λ n. (b % 128) * n) p in
    omega (arith, weighed_shift (suc i) bytes, q)

weighed_cons : (b : ℕ) (bytes : List ℕ) → weighed 0 (b ∷ bytes) ≡ b % 128 + 128 * weighed 0 bytes
weighed_cons b bytes = omega (arith, weighed_shift 0 bytes)

-- bytes of seven bits each weigh less than the next power
pub small_weight : (bytes : List ℕ) → weighed 0 bytes < 128 ^ length bytes
small_weight [] = omega arith
small_weight (b ∷ bytes) = rw (pow-succ' 128 (length bytes), weighed_cons b bytes) (omega (arith, small_weight bytes))

pub leb_one : (b : ℕ) → b < 128 → IsLeb (b ∷ [])
leb_one b small = record {
  filled = omega arith;
  byte = λ k lt. let e : k ≡ 0 = omega arith in rw e (omega arith);
  more = λ k lt. absurd (omega arith);
  last = λ k is. let e : k ≡ 0 = omega arith in rw e small;
}

bytes_cons : (b : ℕ) (bytes : List ℕ) → b < 256 → IsLeb bytes → (k : ℕ) → k < suc (length bytes) → get_or (b ∷ bytes) k 0 < 256
bytes_cons b bytes small leb zero lt = small
bytes_cons b bytes small leb (suc k) lt = leb.byte k (omega arith)

more_cons : (b : ℕ) (bytes : List ℕ) → 128 ≤ b → IsLeb bytes → (k : ℕ) → k + 1 < suc (length bytes) → 128 ≤ get_or (b ∷ bytes) k 0
more_cons b bytes high leb zero lt = high
more_cons b bytes high leb (suc k) lt = leb.more k (omega arith)

last_cons : (b : ℕ) (bytes : List ℕ) → IsLeb bytes → (k : ℕ) → k + 1 ≡ suc (length bytes) → get_or (b ∷ bytes) k 0 < 128
last_cons b bytes leb zero is = let some : 0 < length bytes = leb.filled in absurd (omega arith)
last_cons b bytes leb (suc k) is = leb.last k (omega arith)

pub leb_cons : (b : ℕ) (bytes : List ℕ) → 128 ≤ b → b < 256 → IsLeb bytes → IsLeb (b ∷ bytes)
leb_cons b bytes high small leb = record {
  filled = omega arith;
  byte = bytes_cons b bytes small leb;
  more = more_cons b bytes high leb;
  last = last_cons b bytes leb;
}

pub leb_tail : (b d : ℕ) (bytes : List ℕ) → IsLeb (b ∷ d ∷ bytes) → IsLeb (d ∷ bytes)
leb_tail b d bytes leb = record {
  filled = omega arith;
  byte = λ k lt. leb.byte (suc k) (omega arith);
  more = λ k lt. leb.more (suc k) (omega arith);
  last = λ k is. leb.last (suc k) (omega arith);
}

pub digits_leb : (c : Bool) (more rest : ℕ) → IsLeb (digits_of c more rest)
digits_leb true zero rest = leb_one (127 - rest % 128) (omega arith)
digits_leb false zero rest = leb_one (rest % 128) (omega arith)
digits_leb true (suc more) rest = leb_cons (128 + (127 - rest % 128)) (digits_of true more (rest / 128)) (omega arith) (omega arith) (digits_leb true more (rest / 128))
digits_leb false (suc more) rest = leb_cons (128 + rest % 128) (digits_of false more (rest / 128)) (omega arith) (omega arith) (digits_leb false more (rest / 128))

pub digits_len : (c : Bool) (more rest : ℕ) → length (digits_of c more rest) ≡ suc more
digits_len c zero rest = refl
digits_len c (suc more) rest = ap suc (digits_len c more (rest / 128))

fewer : (more rest : ℕ) → rest < 128 ^ suc (suc more) → rest / 128 < 128 ^ suc more
fewer more rest h = omega (arith, h, pow-succ' 128 (suc more))

-- the digits weigh the number
pub digits_weigh : (more rest : ℕ) → rest < 128 ^ suc more → weighed 0 (digits_of false more rest) ≡ rest
digits_weigh zero rest h = omega arith
digits_weigh (suc more) rest h =
    let low : (128 + rest % 128) % 128 ≡ rest % 128 = omega arith in
    let inner = digits_weigh more (rest / 128) (fewer more rest h) in
    weighed_cons (128 + rest % 128) (digits_of false more (rest / 128)) ∙ omega (arith, low, inner)

-- what they lack to 127 weighs what the number and 1 lack to the power
pub digits_lack : (more rest : ℕ) → rest < 128 ^ suc more → weighed 0 (digits_of true more rest) + rest + 1 ≡ 128 ^ suc more
digits_lack zero rest h =
    let low : (127 - rest % 128) % 128 ≡ 127 - rest % 128 = omega arith in
    omega (arith, low)
digits_lack (suc more) rest h =
    let low : (128 + (127 - rest % 128)) % 128 ≡ 127 - rest % 128 = omega arith in
    let inner = digits_lack more (rest / 128) (fewer more rest h) in
    let e = weighed_cons (128 + (127 - rest % 128)) (digits_of true more (rest / 128)) in
    let p : 128 ^ suc (suc more) ≡ 128 * 128 ^ suc more = pow-succ' 128 (suc more) in
    omega (arith, low, inner, e, p)

-- the last byte and the others, by their weights
last_weighs : (bytes : List ℕ) (n : ℕ) → length bytes ≡ suc n → (low : ℕ) × (low < 128 ^ n) × (weighed 0 bytes ≡ low + (get_or bytes n 0 % 128) * 128 ^ n)
last_weighs bytes n size =
    let whole : take (n + 1) bytes ≡ bytes = take_all (n + 1) bytes (omega arith) in
    let top = weighed_more bytes n (omega arith) in
    let inner : length (take n bytes) ≡ n = length-take-le n bytes (omega arith) in
    let small : weighed 0 (take n bytes) < 128 ^ n = subst (λ (k : ℕ). weighed 0 (take n bytes) < 128 ^ k) inner (small_weight (take n bytes)) in
    (weighed 0 (take n bytes), small, ap (weighed 0) (sym whole) ∙ top)

last_digit : (bytes : List ℕ) (n : ℕ) → length bytes ≡ suc n → is_negative bytes ≡ nat_le 64 (get_or bytes n 0 % 128)
last_digit bytes n size =
    let e : length bytes - 1 ≡ n = omega arith in
    ap (λ k. nat_le 64 (get_or bytes k 0 % 128)) e

pub sign_set : (bytes : List ℕ) (n : ℕ) → length bytes ≡ suc n → 64 * 128 ^ n ≤ weighed 0 bytes → is_negative bytes ≡ true
sign_set bytes n size high =
    let w = last_weighs bytes n size in
    elim (cases_lt (get_or bytes n 0 % 128) 64) [
      | inl few ↦
          let d : get_or bytes n 0 % 128 ≤ 63 = omega (arith, few) in
          let p : (get_or bytes n 0 % 128) * 128 ^ n ≤ 63 * 128 ^ n = mul-le-mul_right (128 ^ n) d in
          absurd (omega (arith, w.1, w.2, p))
      | inr many ↦ last_digit bytes n size ∙ le-leb 64 (get_or bytes n 0 % 128) many
    ]

pub sign_clear : (bytes : List ℕ) (n : ℕ) → length bytes ≡ suc n → weighed 0 bytes < 64 * 128 ^ n → is_negative bytes ≡ false
sign_clear bytes n size low =
    let w = last_weighs bytes n size in
    elim (cases_lt (get_or bytes n 0 % 128) 64) [
      | inl few ↦ last_digit bytes n size ∙ lt-leb 64 (get_or bytes n 0 % 128) few
      | inr many ↦
          let p : 64 * 128 ^ n ≤ (get_or bytes n 0 % 128) * 128 ^ n = mul-le-mul_right (128 ^ n) many in
          absurd (omega (arith, w.1, w.2, p))
    ]

-- the sign says in which half the weight lies
pub set_weight : (bytes : List ℕ) (n : ℕ) → length bytes ≡ suc n → is_negative bytes ≡ true → 64 * 128 ^ n ≤ weighed 0 bytes
set_weight bytes n size set =
    elim (cases_lt (weighed 0 bytes) (64 * 128 ^ n)) [
      | inl low ↦ let clear = sign_clear bytes n size low in absurd (cc (set, clear))
      | inr high ↦ high
    ]

pub clear_weight : (bytes : List ℕ) (n : ℕ) → length bytes ≡ suc n → is_negative bytes ≡ false → weighed 0 bytes < 64 * 128 ^ n
clear_weight bytes n size clear =
    elim (cases_lt (weighed 0 bytes) (64 * 128 ^ n)) [
      | inl low ↦ low
      | inr high ↦ let set = sign_set bytes n size high in absurd (cc (set, clear))
    ]

-- the digits of a number that fits spell it
pub digits_spell : (value len : ℕ) → FitsUnsignedLen value len → SpellsUnsigned (digits_of false (len - 1) value) value
digits_spell value len fits =
    let e : suc (len - 1) ≡ len = omega (arith, fits.some) in
    let small : value < 128 ^ suc (len - 1) = rw e fits.below in
    (digits_leb false (len - 1) value, sym (digits_weigh (len - 1) value small))

pub len_digits : (c : Bool) (value len : ℕ) → 1 ≤ len → length (digits_of c (len - 1) value) ≡ len
len_digits c value len some = digits_len c (len - 1) value ∙ omega arith

pub digits_spell_from_0 : (m len : ℕ) → FitsSignedLen (pos m) len → SpellsSigned (digits_of false (len - 1) m) (pos m)
digits_spell_from_0 m len fits =
    let n = len - 1 in
    let bytes = digits_of false n m in
    let f = doubled (pos m) len fits in
    let e : suc n ≡ len = omega (arith, f.some) in
    let half : m < 64 * 128 ^ n = omega (arith, f.below, half_power len f.some) in
    let small : m < 128 ^ suc n = omega (arith, half, pow-succ' 128 n) in
    let weight : weighed 0 bytes ≡ m = digits_weigh n m small in
    let clear : is_negative bytes ≡ false = sign_clear bytes n (digits_len false n m) (omega (arith, weight, half)) in
    (digits_leb false n m, sym (ap (λ b. signed_of b (weighed 0 bytes) (128 ^ length bytes)) clear ∙ ap pos weight))

-- a power taken off what a number and 1 lack to it
lacking : (w m p : ℕ) → w + m + 1 ≡ p → pos w -ℤ pos p ≡ negsuc m
lacking w m p e = omega (arith, ints)

pub digits_spell_below_0 : (m len : ℕ) → FitsSignedLen (negsuc m) len → SpellsSigned (digits_of true (len - 1) m) (negsuc m)
digits_spell_below_0 m len fits =
    let n = len - 1 in
    let bytes = digits_of true n m in
    let f = doubled (negsuc m) len fits in
    let half : m < 64 * 128 ^ n = omega (arith, f.below, half_power len f.some) in
    let power : 128 ^ suc n ≡ 128 * 128 ^ n = pow-succ' 128 n in
    let weight : weighed 0 bytes + m + 1 ≡ 128 ^ suc n = digits_lack n m (omega (arith, half, power)) in
    let size : length bytes ≡ suc n = digits_len true n m in
    let set : is_negative bytes ≡ true = sign_set bytes n size (omega (arith, weight, half, power)) in
    let whole : weighed 0 bytes + m + 1 ≡ 128 ^ length bytes = weight ∙ ap (λ k. 128 ^ k) (sym size) in
    (digits_leb true n m, sym (ap (λ b. signed_of b (weighed 0 bytes) (128 ^ length bytes)) set ∙ lacking (weighed 0 bytes) m (128 ^ length bytes) whole))

pub signed_spelling : (value : ℤ) (len : ℕ) → FitsSignedLen value len → (bytes : List ℕ) × SpellsSigned bytes value × (length bytes ≡ len)
signed_spelling (pos m) len fits = (digits_of false (len - 1) m, digits_spell_from_0 m len fits, len_digits false m len fits.some)
signed_spelling (negsuc m) len fits = (digits_of true (len - 1) m, digits_spell_below_0 m len fits, len_digits true m len fits.some)

pub spelled_fits : (bytes : List ℕ) (value : ℕ) → SpellsUnsigned bytes value → FitsUnsignedLen value (length bytes)
spelled_fits bytes value (leb, e) = record { some = omega (arith, leb.filled); below = omega (arith, small_weight bytes) }

-- a signed number of n + 1 bytes, by its sign
between : (negative : Bool) (w p : ℕ) → (negative ≡ true → 64 * p ≤ w) → (negative ≡ false → w < 64 * p) → w < 128 * p → (neg_ℤ (pos (64 * p)) ≤ℤ signed_of negative w (128 * p)) × (signed_of negative w (128 * p) <ℤ pos (64 * p))
between true w p high low small = let h = high refl in (omega (arith, ints), omega (arith, ints))
between false w p high low small = let h = low refl in (omega (arith, ints), omega (arith, ints))

pub spelled_fits_signed : (bytes : List ℕ) (value : ℤ) → SpellsSigned bytes value → FitsSignedLen value (length bytes)
spelled_fits_signed bytes value (leb, e) =
    let n = length bytes - 1 in
    let size : length bytes ≡ suc n = omega (arith, leb.filled) in
    let power : 128 ^ length bytes ≡ 128 * 128 ^ n = ap (λ k. 128 ^ k) size ∙ pow-succ' 128 n in
    let b = between (is_negative bytes) (weighed 0 bytes) (128 ^ n) (set_weight bytes n size) (clear_weight bytes n size) (omega (arith, small_weight bytes, power)) in
    let same : value ≡ signed_of (is_negative bytes) (weighed 0 bytes) (128 * 128 ^ n) = e ∙ ap (λ p. signed_of (is_negative bytes) (weighed 0 bytes) p) power in
    record { some = omega (arith, leb.filled); from = rw same b.0; below = rw same b.1 }

-- bytes of one length that weigh the same are the same
same_bytes : (a b : List ℕ) → IsLeb a → IsLeb b → length a ≡ length b → weighed 0 a ≡ weighed 0 b → a ≡ b
same_bytes [] b p q size same = absurd (omega (arith, p.filled))
same_bytes (x ∷ a) [] p q size same = absurd (omega (arith, q.filled))
same_bytes (x ∷ []) (y ∷ []) p q size same =
    let low : x < 128 = p.last 0 refl in
    let low2 : y < 128 = q.last 0 refl in
    let e : x ≡ y = omega (arith, same, weighed_cons x [], weighed_cons y []) in
    ap (λ z. z ∷ []) e
same_bytes (x ∷ []) (y ∷ (d ∷ b)) p q size same = absurd (omega arith)
same_bytes (x ∷ (c ∷ a)) (y ∷ []) p q size same = absurd (omega arith)
same_bytes (x ∷ (c ∷ a)) (y ∷ (d ∷ b)) p q size same =
    let high : 128 ≤ x = p.more 0 (omega arith) in
    let high2 : 128 ≤ y = q.more 0 (omega arith) in
    let few : x < 256 = p.byte 0 (omega arith) in
    let few2 : y < 256 = q.byte 0 (omega arith) in
    let wx = weighed_cons x (c ∷ a) in
    let wy = weighed_cons y (d ∷ b) in
    let both : x % 128 + 128 * weighed 0 (c ∷ a) ≡ y % 128 + 128 * weighed 0 (d ∷ b) = sym wx ∙ same ∙ wy in
    let e : x ≡ y = omega (arith, both) in
    let inner : weighed 0 (c ∷ a) ≡ weighed 0 (d ∷ b) = omega (arith, both) in
    let rest = same_bytes (c ∷ a) (d ∷ b) (leb_tail x c a p) (leb_tail y d b q) (omega arith) inner in
    ap (λ z. z ∷ (c ∷ a)) e ∙ ap (λ z. y ∷ z) rest

-- two weights below a power that give one signed number
one_weight : (s t : Bool) (v w p : ℕ) → v < p → w < p → signed_of s v p ≡ signed_of t w p → v ≡ w
one_weight true true v w p x y e = omega (arith, ints)
one_weight true false v w p x y e = absurd (omega (arith, ints))
one_weight false true v w p x y e = absurd (omega (arith, ints))
one_weight false false v w p x y e = omega (arith, ints)

pub same_signed_bytes : (a b : List ℕ) (value : ℤ) → SpellsSigned a value → SpellsSigned b value → length a ≡ length b → a ≡ b
same_signed_bytes a b value p q size =
    let power : 128 ^ length b ≡ 128 ^ length a = ap (λ n. 128 ^ n) (sym size) in
    let small : weighed 0 b < 128 ^ length a = omega (arith, small_weight b, power) in
    let same : signed_of (is_negative a) (weighed 0 a) (128 ^ length a) ≡ signed_of (is_negative b) (weighed 0 b) (128 ^ length a) =
    sym p.1 ∙ q.1 ∙ ap (λ n. signed_of (is_negative b) (weighed 0 b) n) power
    in
    same_bytes a b p.0 q.0 size (one_weight (is_negative a) (is_negative b) (weighed 0 a) (weighed 0 b) (128 ^ length a) (small_weight a) small same)

pub unsigned_spellings : UnsignedSpellings
unsigned_spellings = record {
  no_shorter = λ bytes value s. least_below value (length bytes) (spelled_fits bytes value s);
  each_len = λ value len h. let f = fits_unsigned value len h in (digits_of false (len - 1) value, digits_spell value len f, len_digits false value len f.some);
  one_a_len = λ a b value p q size. same_bytes a b p.0 q.0 size (sym p.1 ∙ q.1);
}

pub signed_spellings : SignedSpellings
signed_spellings = record {
  no_shorter = λ bytes value s. least_below_signed value (length bytes) (spelled_fits_signed bytes value s);
  each_len = λ value len h. signed_spelling value len (fits_signed value len h);
  one_a_len = same_signed_bytes;
}

-- no number from 0 on is below it
from_0 : (m : ℕ) → int_lt (pos m) (pos 0) ≡ false
from_0 m = elim (cases_Bool (int_lt (pos m) (pos 0))) [
  | inl is ↦ let less : pos m <ℤ pos 0 = lt_z_yes (subst T (sym is) tt) in absurd (omega (arith, ints))
  | inr is ↦ is
]

-- the digits of a signed number that fits, or what they lack below 0, spell it
pub signed_digits_spell : (value : ℤ) (len : ℕ) → FitsSignedLen value len → SpellsSigned (digits_of (int_lt value (pos 0)) (len - 1) (magnitude value)) value
signed_digits_spell (pos m) len fits = rw (from_0 m) (digits_spell_from_0 m len fits)
signed_digits_spell (negsuc m) len fits = digits_spell_below_0 m len fits
