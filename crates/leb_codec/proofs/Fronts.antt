-- Numbers in LEB128 end by themselves.
use Rattle.std.proofs.Common.{◌≡◌, ◌≤◌, ◌<◌, ◌-◌, ℕ, List, ◌++◌, length, get_or, take, ◌∙◌, sym, ap, subst, arith}
use Rattle.std.proofs.lemmas.List.{take-append-le, take_all, length-append}
use Rattle.std.proofs.lemmas.List.{get_or_append_left}
use Rattle.std.specs.Prelude.{ℤ, FitsSigned}
use Rattle.std.specs.Int.{w64}
use Rattle.spelled.specs.Spelled.{HasUniqueFronts}
use Rattle.leb_codec.specs.Leb.{weighed, IsLeb, IsShort, IsWideUnsigned, IsWideSigned, Uleb, Sleb, signed_weighed}
use Rattle.leb_codec.proofs.Lebs.{IsLeb-one, wide_not_ok}
use Rattle.leb_codec.proofs.Signs.{wide_not_ok_s}

-- the bytes before others are a front
pub front_is : (a x : List ℕ) → take (length a) (a ++ x) ≡ a
front_is a x = take-append-le (length a) a x (omega arith) ∙ take_all (length a) a (omega arith)

pub front_fits : (a x : List ℕ) → length a ≤ length (a ++ x)
front_fits a x = omega (arith, length-append a x)

shorter : (a b x y : List ℕ) → IsLeb a → IsLeb b → a ++ x ≡ b ++ y → length a ≤ length b
shorter a b x y p q h =
    IsLeb-one (a ++ x) (length a) (length b) (front_fits a x) (subst (λ (z : List ℕ). length b ≤ length z) (sym h) (front_fits b y)) (subst (λ (z : List ℕ). IsLeb z) (sym (front_is a x)) p) (subst (λ (z : List ℕ). IsLeb z) (sym (ap (take (length b)) h ∙ front_is b y)) q)

pub leb_front : (a b x y : List ℕ) → IsLeb a → IsLeb b → a ++ x ≡ b ++ y → a ≡ b
leb_front a b x y p q h =
    let le = shorter a b x y p q h in
    let ge = shorter b a y x q p (sym h) in
    let same : length a ≡ length b = omega (arith, le, ge) in
    sym (front_is a x) ∙ ap (λ n. take n (a ++ x)) same ∙ ap (take (length b)) h ∙ front_is b y

pub unique_u : HasUniqueFronts Uleb
unique_u v w a b x y p q h =
    let same = leb_front a b x y p.0.0 q.0.0 h in
    (same, p.0.1 ∙ ap (weighed 0) same ∙ sym q.0.1)

pub unique_s : HasUniqueFronts Sleb
unique_s v w a b x y p q h =
    let same = leb_front a b x y p.0.0 q.0.0 h in
    (same, p.0.1 ∙ ap signed_weighed same ∙ sym q.0.1)

-- bytes that begin with a number aren't cut off
pub leb_not_short : (a x : List ℕ) → IsLeb a → IsShort (a ++ x) → ⊥
leb_not_short a x p more =
    let some : 0 < length a = p.filled in
    let high : 128 ≤ get_or (a ++ x) (length a - 1) 0 = more (length a - 1) (omega (arith, length-append a x)) in
    let low : get_or a (length a - 1) 0 < 128 = p.last (length a - 1) (omega arith) in
    let same : get_or (a ++ x) (length a - 1) 0 ≡ get_or a (length a - 1) 0 = get_or_append_left a x 0 (length a - 1) (omega arith) in
    omega (arith, high, low, same)

-- bytes that begin with a number that fits don't begin with one that doesn't
pub uleb_not_wide : (v : ℕ) (a x : List ℕ) → Uleb v a → IsWideUnsigned (a ++ x) → ⊥
uleb_not_wide v a x p wide =
    let front = front_is a x in
    wide_not_ok (a ++ x) (length a) v (front_fits a x) (subst (λ (z : List ℕ). IsLeb z) (sym front) p.0.0) (p.0.1 ∙ ap (weighed 0) (sym front)) p.1 wide

pub sleb_not_wide : (v : ℤ) (a x : List ℕ) → Sleb v a → IsWideSigned (a ++ x) → ⊥
sleb_not_wide v a x p wide =
    let front = front_is a x in
    wide_not_ok_s (a ++ x) (length a) (front_fits a x) (subst (λ (z : List ℕ). IsLeb z) (sym front) p.0.0) (subst (λ (z : ℤ). FitsSigned w64 z) (p.0.1 ∙ ap signed_weighed (sym front)) p.1) wide
