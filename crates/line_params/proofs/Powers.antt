-- The numbers with one set bit are the powers of two.
use Rattle.std.proofs.Common.{◌≡◌, ◌≤◌, ◌<◌, ◌+◌, ◌*◌, ◌/◌, ◌%◌, ◌^◌, ◌∙◌, ℕ, zero, suc, max, refl, sym, ap, arith, inl, inr}
use Rattle.std.specs.Int.{IsPowerOfTwo}
use Rattle.std.specs.Prelude.{count_ones}
use Rattle.std.proofs.Math.Nat.{pow-suc, pow-le-pow_right}
use Rattle.std.proofs.lemmas.Bool.{cases_lt}
use Rattle.std.proofs.lemmas.Nat.{ones_cat, ones-le, zero_from_ones, ones_le_self}

-- the lowest bit, and the others
bits_split : (n : ℕ) → count_ones n ≡ count_ones (n / 2) + count_ones (n % 2)
bits_split n =
    let whole : n / 2 * 2 ^ 1 + n % 2 ≡ n = omega arith in
    ap count_ones (sym whole) ∙ ones_cat 1 (n / 2) (n % 2) (omega arith)

one_bit : (n : ℕ) → n ≡ 1 → count_ones n ≡ 1
one_bit n is =
    elim (cases_lt 0 (count_ones n)) [
      | inl some ↦ omega (arith, ones-le 1 n (omega arith))
      | inr none ↦ (let zero_is : n ≡ 0 = zero_from_ones n (omega arith) in absurd (omega arith))
    ]

power_in : (d n : ℕ) → n ≤ d → count_ones n ≡ 1 → IsPowerOfTwo n
power_in zero n h one = absurd (omega (arith, ones_le_self n))
power_in (suc d) n h one =
    elim (cases_lt 0 (n % 2)) [
      | inl odd ↦
          let last : n % 2 ≡ 1 = omega arith in
          let others : n / 2 ≡ 0 = zero_from_ones (n / 2) (omega (arith, bits_split n, one_bit (n % 2) last)) in
          (0, omega arith)
      | inr even ↦
          let last : count_ones (n % 2) ≤ n % 2 = ones_le_self (n % 2) in
          let half = power_in d (n / 2) (omega arith) (omega (arith, bits_split n)) in
          (suc half.0, omega (arith, half.1, pow-suc 2 half.0))
    ]

pub power_from : (n : ℕ) → count_ones n ≡ 1 → IsPowerOfTwo n
power_from n = power_in n n (omega arith)

pub power_to : (n : ℕ) → IsPowerOfTwo n → count_ones n ≡ 1
power_to n (k, is) =
    let whole : 1 * 2 ^ k + 0 ≡ n = omega arith in
    let last : count_ones 0 ≤ 0 = ones_le_self 0 in
    omega (arith, ap count_ones whole, ones_cat k 1 0 (omega (arith, pow-le-pow_right {n = 2} (omega arith) {i = 0} {j = k} (omega arith))), one_bit 1 refl)

-- the next power of two is the least from a number on
pub next_least : (index p m : ℕ) → 0 < index → IsPowerOfTwo p → p / 2 < max 1 index → index ≤ m → IsPowerOfTwo m → p ≤ m
next_least index p m some (j, is) near from (i, is_m) =
    elim (cases_lt m p) [
      | inl less ↦
          elim (cases_lt i j) [
            | inl below ↦ absurd (omega (arith, pow-le-pow_right {n = 2} (omega arith) {i = suc i} {j = j} (omega arith), pow-suc 2 i))
            | inr above ↦ absurd (omega (arith, pow-le-pow_right {n = 2} (omega arith) {i = j} {j = i} above))
          ]
      | inr enough ↦ enough
    ]
