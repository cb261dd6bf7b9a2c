-- What is kept of a list by a test, told by the numbers of its elements.
use Rattle.std.proofs.Common.{◌≡◌, ◌≤◌, ◌<◌, ◌+◌, ◌∙◌, inl, inr, ℕ, zero, suc, List, [], ◌∷◌, length, get_or, map, Bool, true, false, cond, ap, refl, arith}
use Rattle.std.specs.Prelude.{filter}
use Rattle.std.specs.List.{range_with_len}
use Rattle.std.proofs.lemmas.List.FromFn.{fill_by_all}
use Rattle.tidy_lists.proofs.FilterLaws.{IsOneOf}

module _ {X : Type 0} where
  kept_image : (f : ℕ → X) (b : Bool) (n : ℕ) (ns : List ℕ) → cond b (f n ∷ map f ns) (map f ns) ≡ map f (cond b (n ∷ ns) ns)
  kept_image f true n ns = refl
  kept_image f false n ns = refl

  -- a test of what numbers stand for keeps what the kept numbers stand for
  filter_image : (f : ℕ → X) (test : X → Bool) (ns : List ℕ) → filter test (map f ns) ≡ map f (filter (λ (n : ℕ). test (f n)) ns)
  filter_image f test [] = refl
  filter_image f test (n ∷ ns) =
      ap (λ (z : List X). cond (test (f n)) (f n ∷ z) z) (filter_image f test ns) ∙ kept_image f (test (f n)) n (filter (λ (n : ℕ). test (f n)) ns)

  -- what is kept of a list stands at the numbers that are kept of all its numbers
  pub numbered_filter : (xs : List X) (d : X) (test : X → Bool) →
      filter test xs ≡ map (λ (n : ℕ). get_or xs n d) (filter (λ (n : ℕ). test (get_or xs n d)) (range_with_len 0 (length xs)))
  numbered_filter xs d test =
      ap (filter test) (fill_by_all (λ (n : ℕ). get_or xs n d) xs (length xs) d refl (λ k inside. refl))
      ∙ filter_image (λ (n : ℕ). get_or xs n d) test (range_with_len 0 (length xs))

-- two tests that agree at numbers in a row keep the same ones
pub filter_alike : (p q : ℕ → Bool) (a n : ℕ) → ((k : ℕ) → a ≤ k → k < a + n → p k ≡ q k) →
    filter p (range_with_len a n) ≡ filter q (range_with_len a n)
filter_alike p q a zero agree = refl
filter_alike p q a (suc n) agree =
    let here : p a ≡ q a = agree a (omega arith) (omega arith) in
    let more : filter p (range_with_len (a + 1) n) ≡ filter q (range_with_len (a + 1) n) =
    filter_alike p q (a + 1) n (λ k low high. agree k (omega (arith, low)) (omega (arith, high))) in
    ap (λ (b : Bool). cond b (a ∷ filter p (range_with_len (a + 1) n)) (filter p (range_with_len (a + 1) n))) here
    ∙ ap (λ (z : List ℕ). cond (q a) (a ∷ z) z) more

-- a number of some in a row is below their end
pub in_range : (a n k : ℕ) → IsOneOf k (range_with_len a n) → k < a + n
in_range a zero k none = absurd none
in_range a (suc n) k (inl e) = omega (arith, e)
in_range a (suc n) k (inr more) = let high : k < a + 1 + n = in_range (a + 1) n k more in omega (arith, high)
