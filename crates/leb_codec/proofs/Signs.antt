-- Laws of signed numbers in LEB128.
use Rattle.std.proofs.Common.{◌≡◌, ◌≤◌, ◌<◌, ◌+◌, ◌-◌, ◌*◌, ◌%◌, ◌^◌, ℕ, suc, List, [], ◌∷◌, ◌++◌, length, get_or, take, ◌∙◌, sym, ap, subst, arith}
use Rattle.std.proofs.lemmas.List.{take_more, length-take-le}
use Rattle.std.proofs.Math.Nat.{pow-succ'}
use Rattle.std.specs.Prelude.{nat_le, FitsSigned}
use Rattle.std.specs.Int.{w64}
use Rattle.std.proofs.lemmas.List.{get_or-take}
use Rattle.leb_codec.specs.Leb.{weighed, signed_of, signed_weighed, IsLeb, IsWideSigned}
use Rattle.leb_codec.proofs.Lebs.{IsLeb-one}

-- the sum of the digits' complements
abbrev pub complement : ℕ → List ℕ → ℕ
complement i [] = 0
complement i (byte ∷ bytes) = (127 - byte % 128) * 128 ^ i + complement (suc i) bytes

complement-push : (i : ℕ) (bytes : List ℕ) (byte : ℕ) → complement i (bytes ++ byte ∷ []) ≡ complement i bytes + (127 - byte % 128) * 128 ^ (i + length bytes)
complement-push i [] byte =
    let e : i + 0 ≡ i = omega arith in
    rw e (omega arith)
complement-push i (b ∷ bytes) byte =
    let e : i + suc (length bytes) ≡ suc i + length bytes = omega arith in
    rw e (omega (arith, complement-push (suc i) bytes byte))

pub complement_more : (bytes : List ℕ) (k : ℕ) → k < length bytes → complement 0 (take (k + 1) bytes) ≡ complement 0 (take k bytes) + (127 - get_or bytes k 0 % 128) * 128 ^ k
complement_more bytes k h =
    let size : length (take k bytes) ≡ k = length-take-le k bytes (omega arith) in
    ap (complement 0) (take_more bytes k 0 h) ∙ complement-push 0 (take k bytes) (get_or bytes k 0)
    ∙ ap (λ n. complement 0 (take k bytes) + (127 - get_or bytes k 0 % 128) * 128 ^ n) (let e : 0 + length (take k bytes) ≡ k = omega arith in e)

-- both sums together
pub complement_sum : (i : ℕ) (bytes : List ℕ) → weighed i bytes + complement i bytes + 128 ^ i ≡ 128 ^ (i + length bytes)
complement_sum i [] = let e : i + 0 ≡ i = omega arith in rw e (omega arith)
complement_sum i (b ∷ bytes) =
    let e : i + suc (length bytes) ≡ suc i + length bytes = omega arith in
    let d : b % 128 + (127 - b % 128) ≡ 127 = omega arith in
    let p : (b % 128 + (127 - b % 128)) * 128 ^ i ≡ 127 * 128 ^ i = ap (λ x. x * 128 ^ i) d in
    let q : 128 ^ suc i ≡ 128 * 128 ^ i = pow-succ' 128 i in
    rw e (omega (arith, complement_sum (suc i) bytes))

-- the signed number of a front, by its last byte and both sums
pub signed_front : (bytes : List ℕ) (k : ℕ) → k < length bytes → signed_of (nat_le 64 (get_or bytes k 0 % 128)) (weighed 0 (take (k + 1) bytes)) (weighed 0 (take (k + 1) bytes) + complement 0 (take (k + 1) bytes) + 1) ≡ signed_weighed (take (k + 1) bytes)
signed_front bytes k h =
    let front = take (k + 1) bytes in
    let size : length front ≡ k + 1 = length-take-le (k + 1) bytes (omega arith) in
    let last : length front - 1 ≡ k = omega arith in
    let start : 0 + length front ≡ length front = omega arith in
    let power : weighed 0 front + complement 0 front + 1 ≡ 128 ^ length front = complement_sum 0 front ∙ ap (λ n. 128 ^ n) start in
    let byte : get_or front (length front - 1) 0 ≡ get_or bytes k 0 = ap (λ n. get_or front n 0) last ∙ get_or-take (k + 1) bytes k 0 (omega arith) in
    ap (λ p. signed_of (nat_le 64 (get_or bytes k 0 % 128)) (weighed 0 front) p) power ∙ ap (λ b. signed_of (nat_le 64 (b % 128)) (weighed 0 front) (128 ^ length front)) (sym byte)

pub wide_not_ok_s : (bytes : List ℕ) (len : ℕ) → len ≤ length bytes → IsLeb (take len bytes) → FitsSigned w64 (signed_weighed (take len bytes)) → IsWideSigned bytes → ⊥
wide_not_ok_s bytes len within leb fits (n, inside, other, over) =
    let le = IsLeb-one bytes len n within inside leb other in
    let ge = IsLeb-one bytes n len inside within other leb in
    let same : len ≡ n = omega (arith, le, ge) in
    over (subst (λ (m : ℕ). FitsSigned w64 (signed_weighed (take m bytes))) same fits)

pub short_not_wide_s : (bytes : List ℕ) → ((k : ℕ) → k < length bytes → 128 ≤ get_or bytes k 0) → IsWideSigned bytes → ⊥
short_not_wide_s bytes more (n, inside, leb, over) =
    let size : length (take n bytes) ≡ n = length-take-le n bytes inside in
    let one : 0 < n = omega (arith, leb.filled) in
    let low : get_or bytes (n - 1) 0 < 128 = subst (λ (x : ℕ). x < 128) (get_or-take n bytes (n - 1) 0 (omega arith)) (leb.last (n - 1) (omega arith)) in
    omega (arith, low, more (n - 1) (omega arith))
