-- Laws of digits that are counted or appended one by one.
use Rattle.std.proofs.Common.{◌≡◌, ◌≤◌, ◌<◌, ◌+◌, ◌-◌, ◌*◌, ◌/◌, ◌%◌, ◌^◌, ℕ, suc, List, [], ◌∷◌, ◌++◌, Bool, ◌∙◌, ap, sym, arith, inl, inr}
use Rattle.std.proofs.lemmas.List.{append_assoc}
use Rattle.std.proofs.lemmas.Bool.{cases_lt}
use Rattle.std.proofs.Math.Nat.{pow-succ', pow-le-pow_right}
use Rattle.std.proofs.lemmas.Nat.{and_mask}
use Rattle.std.specs.Int.Bits.{bit_or, bit_and, or_add_and}
use Rattle.leb_codec.specs.Leb.{IsLeastUnsignedLen}
use Rattle.leb_codec.specs.Digits.{Extends}
use Rattle.leb_codec.specs.inside.Digits.{digit_of, digits_of}
use Rattle.leb_codec.proofs.Lebs.{pow128, seven}

-- the least length, from the power below a number and the power above it
pub least-between : (whole n : ℕ) → whole < 128 ^ suc n → (0 < n → 128 ^ n ≤ whole) → IsLeastUnsignedLen whole (suc n)
least-between whole n above at_least = record {
  enough = record { some = omega arith; below = above };
  least = λ k f.
      elim (cases_lt k (suc n)) [
        | inl few ↦
            let low = at_least (omega (arith, f.some)) in
            let power = pow128 k n (omega arith) in
            absurd (omega (arith, low, power, f.below))
        | inr many ↦ many
      ];
}

-- a number with its lowest bit set is the odd one of it and its next
set_lowest : (value : ℕ) → bit_or value 1 + value % 2 ≡ value + 1
set_lowest value =
    let low : bit_and value 1 ≡ value % 2 = and_mask value 1 in
    omega (arith, or_add_and value 1, low)

power_front : (n : ℕ) → 0 < n → 128 ^ n ≡ 128 * 128 ^ (n - 1)
power_front n some = let e : n ≡ suc (n - 1) = omega arith in ap (λ k. 128 ^ k) e ∙ pow-succ' 128 (n - 1)

-- the least length, from the place of the highest set bit: the place of 0 is that of 1
pub least_by_bits : (value place : ℕ) → 2 ^ place ≤ bit_or value 1 → bit_or value 1 < 2 * 2 ^ place → IsLeastUnsignedLen value (place / 7 + 1)
least_by_bits value place low high =
    let n : ℕ = place / 7 in
    let set = set_lowest value in
    let two : 0 < 2 = omega arith in
    let next : 2 * 2 ^ place ≡ 2 ^ suc place = sym (pow-succ' 2 place) in
    let above : 2 ^ suc place ≤ 2 ^ (7 * suc n) = pow-le-pow_right two (omega arith) in
    let below : 2 ^ (7 * n) ≤ 2 ^ place = pow-le-pow_right two (omega arith) in
    let e : place / 7 + 1 ≡ suc n = omega arith in
    rw e (least-between value n (omega (arith, set, high, next, above, seven (suc n))) (λ some.
    let even : 128 ^ n ≡ 128 * 128 ^ (n - 1) = power_front n some in
    omega (arith, set, low, below, seven n, even)))

-- a digit appended is one less to come
pub digit_moved : (out : List ℕ) (c : Bool) (digit m n rest : ℕ) → n ≡ suc m → digit ≡ digit_of c rest → (out ++ (128 + digit) ∷ []) ++ digits_of c m (rest / 128) ≡ out ++ digits_of c n rest
digit_moved out c digit m n rest size e =
    rw (size, e) (append_assoc out ((128 + digit_of c rest) ∷ []) (digits_of c m (rest / 128)))

pub extends_push : (old out : List ℕ) (byte : ℕ) → Extends old out → Extends old (out ++ byte ∷ [])
extends_push old out byte (bytes, e) = (bytes ++ byte ∷ [], ap (λ (z : List ℕ). z ++ byte ∷ []) e ∙ append_assoc old bytes (byte ∷ []))
