-- Powers of two as powers of 128.
use Rattle.std.proofs.Common.{◌≡◌, ◌≤◌, ◌<◌, ◌+◌, ◌-◌, ◌*◌, ◌%◌, ◌^◌, ℕ, zero, suc, ◌∙◌, ap, refl, arith}
use Rattle.std.proofs.lemmas.Nat.{pow-add}
use Rattle.std.proofs.Math.Nat.{pow-succ', pow-le-pow_right}

seven : (len : ℕ) → 2 ^ (7 * len) ≡ 128 ^ len
seven zero = refl
seven (suc len) =
    let e : 7 * suc len ≡ 7 + 7 * len = omega arith in
    rw (e, pow-add 2 7 (7 * len), pow-succ' 128 len, seven len) refl

pub pow128 : (m n : ℕ) → m ≤ n → 128 ^ m ≤ 128 ^ n
pow128 m n h = pow-le-pow_right (let one : 0 < 128 = omega arith in one) h

pub greatest_of_len : (len : ℕ) → len ≤ 9 → 1 * 2 ^ (7 * len) % 18446744073709551616 - 1 + 1 ≡ 128 ^ len
greatest_of_len len few =
    let low = pow128 0 len (omega arith) in
    let high = pow128 len 9 few in
    omega (arith, seven len)

half : (k : ℕ) → 2 ^ (6 + 7 * k) ≡ 64 * 128 ^ k
half k = rw (pow-add 2 6 (7 * k), seven k) refl

-- half a power of 128, as the program shifts it
pub half_of_len : (len : ℕ) → 1 ≤ len → len ≤ 9 → 1 * 2 ^ (7 * len - 1) % 18446744073709551616 ≡ 64 * 128 ^ (len - 1)
half_of_len len some few =
    let e : 7 * len - 1 ≡ 6 + 7 * (len - 1) = omega arith in
    let high = pow128 (len - 1) 8 (omega arith) in
    let same : 2 ^ (7 * len - 1) ≡ 64 * 128 ^ (len - 1) = ap (λ n. 2 ^ n) e ∙ half (len - 1) in
    omega (arith, same, high)

pub half_small : (len : ℕ) → len ≤ 9 → 64 * 128 ^ (len - 1) ≤ 2 ^ 62
half_small len few = let high = pow128 (len - 1) 8 (omega arith) in omega arith

pub half_some : (len : ℕ) → 64 ≤ 64 * 128 ^ (len - 1)
half_some len = let low = pow128 0 (len - 1) (omega arith) in omega arith
