-- Laws of bytes in LEB128.
use Rattle.std.proofs.Common.{◌≡◌, ◌≤◌, ◌<◌, ◌+◌, ◌-◌, ◌*◌, ◌%◌, ◌^◌, ℕ, zero, suc, List, [], ◌∷◌, ◌++◌, length, get_or, take, ◌∙◌, ap, refl, subst, arith, inl, inr, ◌⊎◌, Option, Some, None}
use Rattle.std.proofs.lemmas.List.{take_more, length-take-le, get_or-take}
use Rattle.std.proofs.lemmas.Bool.{cases_lt}
use Rattle.std.proofs.lemmas.Nat.{pow-add}
use Rattle.std.proofs.Math.Nat.{pow-succ', pow-le-pow_right, mul-le-mul, mod-eq_of_lt}
use Rattle.std.specs.Option.{SomeIff}
use Rattle.leb_codec.specs.Leb.{weighed, IsLeb, IsWideUnsigned}
use Rattle.leb_codec.specs.inside.Digits.{IsSum}

pub weighed-push : (i : ℕ) (bytes : List ℕ) (byte : ℕ) → weighed i (bytes ++ byte ∷ []) ≡ weighed i bytes + (byte % 128) * 128 ^ (i + length bytes)
weighed-push i [] byte =
    let e : i + 0 ≡ i = omega arith in
    rw e (omega arith)
weighed-push i (b ∷ bytes) byte =
    let e : i + suc (length bytes) ≡ suc i + length bytes = omega arith in
    rw e (omega (arith, weighed-push (suc i) bytes byte))

-- one byte more of a front
pub weighed_more : (bytes : List ℕ) (k : ℕ) → k < length bytes → weighed 0 (take (k + 1) bytes) ≡ weighed 0 (take k bytes) + (get_or bytes k 0 % 128) * 128 ^ k
weighed_more bytes k h =
    let size : length (take k bytes) ≡ k = length-take-le k bytes (omega arith) in
    ap (weighed 0) (take_more bytes k 0 h) ∙ weighed-push 0 (take k bytes) (get_or bytes k 0) ∙ ap (λ n. weighed 0 (take k bytes) + get_or bytes k 0 % 128 * 128 ^ n) (let e : 0 + length (take k bytes) ≡ k = omega arith in e)

-- a front that ends at its first byte below 128
pub IsLeb-front : (bytes : List ℕ) (k : ℕ) → k < length bytes → ((j : ℕ) → j < length bytes → get_or bytes j 0 < 256) → ((j : ℕ) → j < k → 128 ≤ get_or bytes j 0) → get_or bytes k 0 < 128 → IsLeb (take (k + 1) bytes)
IsLeb-front bytes k h small more last =
    let size : length (take (k + 1) bytes) ≡ k + 1 = length-take-le (k + 1) bytes (omega arith) in
    record {
      filled = omega arith;
      byte = λ j lt. rw (get_or-take (k + 1) bytes j 0 (omega arith)) (small j (omega arith));
      more = λ j lt. rw (get_or-take (k + 1) bytes j 0 (omega arith)) (more j (omega arith));
      last = λ j e. let same : j ≡ k = omega arith in rw (same, get_or-take (k + 1) bytes k 0 (omega arith)) last;
    }

-- two such fronts are one
pub IsLeb-one : (bytes : List ℕ) (m n : ℕ) → m ≤ length bytes → n ≤ length bytes → IsLeb (take m bytes) → IsLeb (take n bytes) → m ≤ n
IsLeb-one bytes m n hm hn a b =
    elim (cases_lt n m) [
      | inl less ↦
          let size_m : length (take m bytes) ≡ m = length-take-le m bytes hm in
          let size_n : length (take n bytes) ≡ n = length-take-le n bytes hn in
          let one : 0 < n = omega (arith, b.filled) in
          let high : 128 ≤ get_or bytes (n - 1) 0 = subst (λ (x : ℕ). 128 ≤ x) (get_or-take m bytes (n - 1) 0 (omega arith)) (a.more (n - 1) (omega arith)) in
          let low : get_or bytes (n - 1) 0 < 128 = subst (λ (x : ℕ). x < 128) (get_or-take n bytes (n - 1) 0 (omega arith)) (b.last (n - 1) (omega arith)) in
          absurd (omega (arith, high, low))
      | inr most ↦ most
    ]

-- powers of seven bits
pub seven : (place : ℕ) → 2 ^ (7 * place) ≡ 128 ^ place
seven zero = refl
seven (suc place) =
    let e : 7 * suc place ≡ 7 + 7 * place = omega arith in
    rw (e, pow-add 2 7 (7 * place), pow-succ' 128 place, seven place) refl

pub pow128 : (i j : ℕ) → i ≤ j → 128 ^ i ≤ 128 ^ j
pow128 i j h = pow-le-pow_right (let one : 0 < 128 = omega arith in one) h

-- a digit above the ninth place is too large
pub large : (total digit place : ℕ) → 0 < digit → 9 < place → 2 ^ 64 ≤ total + digit * 128 ^ place
large total digit place some far =
    let p : 128 ^ 10 ≤ 128 ^ place = pow128 10 place (omega arith) in
    let q : 1 * 128 ^ 10 ≤ digit * 128 ^ place = mul-le-mul {n₁ = 1} {m₁ = 128 ^ 10} {n₂ = digit} {m₂ = 128 ^ place} (omega arith) p in
    omega arith

pub second : (total digit : ℕ) → 1 < digit → 2 ^ 64 ≤ total + digit * 128 ^ 9
second total digit two = omega arith

below : (digit place : ℕ) → digit < 128 → (place < 9) ⊎ ((place ≡ 9) × (digit ≤ 1)) → digit * 128 ^ place < 2 ^ 64
below digit place d (inl low) =
    let p : 128 ^ place ≤ 128 ^ 8 = pow128 place 8 (omega arith) in
    let q : digit * 128 ^ place ≤ 127 * 128 ^ 8 = mul-le-mul {n₁ = digit} {m₁ = 128 ^ place} {n₂ = 127} {m₂ = 128 ^ 8} (omega arith) p in
    omega arith
below digit place d (inr ninth) = rw ninth.0 (omega (arith, ninth.1))

-- the shift of a digit that fits
pub shifted : (digit place : ℕ) → digit < 128 → (place < 9) ⊎ ((place ≡ 9) × (digit ≤ 1)) → (digit * 2 ^ (7 * place)) % 2 ^ 64 ≡ digit * 128 ^ place
shifted digit place d small =
    ap (λ x. (digit * x) % 2 ^ 64) (seven place) ∙ mod-eq_of_lt (below digit place d small)

-- a sum of which a part is known
pub added : (result : Option ℕ) (sum part total digit place : ℕ) → SomeIff result (sum + part < 2 ^ 64) (sum + part) → part ≡ digit * 128 ^ place → sum ≡ total → IsSum result (total + digit * 128 ^ place)
added (Some x) sum part total digit place h p s = omega (arith, h.1)
added None sum part total digit place h p s =
    elim (cases_lt (sum + part) (2 ^ 64)) [ inl fits ↦ absurd (h fits) | inr over ↦ omega arith ]

-- bytes of a number that fits don't begin those of one that doesn't
pub wide_not_ok : (bytes : List ℕ) (len value : ℕ) → len ≤ length bytes → IsLeb (take len bytes) → value ≡ weighed 0 (take len bytes) → value < 2 ^ 64 → IsWideUnsigned bytes → ⊥
wide_not_ok bytes len value within leb e small (n, inside, other, over) =
    let le = IsLeb-one bytes len n within inside leb other in
    let ge = IsLeb-one bytes n len inside within other leb in
    let same : n ≡ len = omega (arith, le, ge) in
    let at_len : 2 ^ 64 ≤ weighed 0 (take len bytes) = rw (← same) over in
    omega arith

-- bytes of which each says that more follow don't begin those of a number
pub short_not_wide : (bytes : List ℕ) → ((k : ℕ) → k < length bytes → 128 ≤ get_or bytes k 0) → IsWideUnsigned bytes → ⊥
short_not_wide bytes more (n, inside, leb, over) =
    let size : length (take n bytes) ≡ n = length-take-le n bytes inside in
    let one : 0 < n = omega (arith, leb.filled) in
    let low : get_or bytes (n - 1) 0 < 128 = subst (λ (x : ℕ). x < 128) (get_or-take n bytes (n - 1) 0 (omega arith)) (leb.last (n - 1) (omega arith)) in
    omega (arith, low, more (n - 1) (omega arith))
