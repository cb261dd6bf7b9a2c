-- Numbers in their order, of which those are kept that pass a test.
use Rattle.std.proofs.Common.{◌≡◌, ◌≤◌, ◌<◌, ◌+◌, ◌-◌, ◌∙◌, ◌⊎◌, inl, inr, ℕ, zero, suc, List, [], ◌∷◌, ◌++◌, Bool, true, false, cond, sym, ap, refl, arith}
use Rattle.std.specs.Prelude.{filter}
use Rattle.std.specs.List.{range_with_len}
use Rattle.std.proofs.lemmas.Bool.{false≢true}
use Rattle.std.proofs.lemmas.List.{append-nil}
use Rattle.std.proofs.lemmas.List.Elements.{filter-append}

-- a number is one of a list
abbrev pub IsOneOf : ℕ → List ℕ → Type 0
IsOneOf k [] = ⊥
IsOneOf k (i ∷ is) = (k ≡ i) ⊎ IsOneOf k is

-- numbers up to one, and then more
pub range_split : (a m n : ℕ) → range_with_len a (m + n) ≡ range_with_len a m ++ range_with_len (a + m) n
range_split a zero n =
    let count : 0 + n ≡ n = omega arith in
    let here : a ≡ a + 0 = omega arith in
    ap (range_with_len a) count ∙ ap (λ (z : ℕ). range_with_len z n) here
range_split a (suc m) n =
    let next : range_with_len (a + 1) (m + n) ≡ range_with_len (a + 1) m ++ range_with_len (a + 1 + m) n = range_split (a + 1) m n in
    let here : a + 1 + m ≡ a + suc m = omega arith in
    let count : suc m + n ≡ suc (m + n) = omega arith in
    ap (range_with_len a) count ∙ ap (λ (z : List ℕ). a ∷ z) (next ∙ ap (λ (z : ℕ). range_with_len (a + 1) m ++ range_with_len z n) here)

split_first : (m n : ℕ) → range_with_len 0 (m + n) ≡ range_with_len 0 m ++ range_with_len m n
split_first m n =
    let here : 0 + m ≡ m = omega arith in
    range_split 0 m n ∙ ap (λ (z : ℕ). range_with_len 0 m ++ range_with_len z n) here

module _ (test : ℕ → Bool) where
  -- what is kept passes the test, and is among the numbers
  kept_by : (a k : ℕ) (rest : List ℕ) (b : Bool) → test a ≡ b → IsOneOf k (cond b (a ∷ rest) rest) → ((k ≡ a) × (test k ≡ true)) ⊎ IsOneOf k rest
  kept_by a k rest true passes (inl e) = inl (e, ap test e ∙ passes)
  kept_by a k rest true passes (inr more) = inr more
  kept_by a k rest false fails more = inr more

  pub kept : (a n k : ℕ) → IsOneOf k (filter test (range_with_len a n)) → (a ≤ k) × (k < a + n) × (test k ≡ true)
  kept a zero k none = absurd none
  kept a (suc n) k one = elim (kept_by a k (filter test (range_with_len (a + 1) n)) (test a) refl one) [
    | inl (e, passes) ↦ (omega (arith, e), omega (arith, e), passes)
    | inr more ↦ (let (low, high, passes) = kept (a + 1) n k more in (omega (arith, low), omega (arith, high), passes))
  ]

  kept_none_by : (a : ℕ) (rest : List ℕ) (b : Bool) → test a ≡ b → test a ≡ false → cond b (a ∷ rest) rest ≡ rest
  kept_none_by a rest true passes fails = absurd (false≢true (sym fails ∙ passes))
  kept_none_by a rest false e fails = refl

  kept_some_by : (a : ℕ) (rest : List ℕ) (b : Bool) → test a ≡ b → test a ≡ true → cond b (a ∷ rest) rest ≡ a ∷ rest
  kept_some_by a rest true e passes = refl
  kept_some_by a rest false fails passes = absurd (false≢true (sym fails ∙ passes))

  -- none is kept where none passes
  pub kept_none : (a n : ℕ) → ((k : ℕ) → a ≤ k → k < a + n → test k ≡ false) → filter test (range_with_len a n) ≡ []
  kept_none a zero fails = refl
  kept_none a (suc n) fails =
      kept_none_by a (filter test (range_with_len (a + 1) n)) (test a) refl (fails a (omega arith) (omega arith)) ∙ kept_none (a + 1) n (λ k low high. fails k (omega (arith, low)) (omega (arith, high)))

  -- what is kept up to a number, which is kept, and what is kept behind it
  pub kept_cut : (n k : ℕ) → k < n → test k ≡ true → filter test (range_with_len 0 n) ≡ filter test (range_with_len 0 k) ++ k ∷ filter test (range_with_len (k + 1) (n - k - 1))
  kept_cut n k inside passes =
      let count : n ≡ k + suc (n - k - 1) = omega arith in
      ap (λ (z : ℕ). filter test (range_with_len 0 z)) count
      ∙ ap (filter test) (split_first k (suc (n - k - 1)))
      ∙ filter-append test (range_with_len 0 k) (range_with_len k (suc (n - k - 1)))
      ∙ ap (λ (z : List ℕ). filter test (range_with_len 0 k) ++ z) (kept_some_by k (filter test (range_with_len (k + 1) (n - k - 1))) (test k) refl passes)

  pub kept_more : (k : ℕ) → test k ≡ true → filter test (range_with_len 0 (k + 1)) ≡ filter test (range_with_len 0 k) ++ k ∷ []
  kept_more k passes =
      let none : k + 1 - k - 1 ≡ 0 = omega arith in
      kept_cut (k + 1) k (omega arith) passes ∙ ap (λ (z : ℕ). filter test (range_with_len 0 k) ++ k ∷ filter test (range_with_len (k + 1) z)) none

  -- up to a number all that are kept are kept, where none behind it is
  pub kept_all : (m n : ℕ) → m ≤ n → ((k : ℕ) → m ≤ k → k < n → test k ≡ false) → filter test (range_with_len 0 n) ≡ filter test (range_with_len 0 m)
  kept_all m n within fails =
      let count : n ≡ m + (n - m) = omega arith in
      ap (λ (z : ℕ). filter test (range_with_len 0 z)) count
      ∙ ap (filter test) (split_first m (n - m))
      ∙ filter-append test (range_with_len 0 m) (range_with_len m (n - m))
      ∙ ap (λ (z : List ℕ). filter test (range_with_len 0 m) ++ z) (kept_none m (n - m) (λ k low high. fails k low (omega arith)))
      ∙ append-nil (filter test (range_with_len 0 m))
