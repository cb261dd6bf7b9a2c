-- The order of the different steps, and what it says of their counts.
use Rattle.std.proofs.Common.{◌≡◌, ◌≤◌, ◌<◌, ◌+◌, ◌*◌, ◌∙◌, ℕ, suc, List, [], ◌∷◌, get_or, length, sym, ap, refl, subst, arith, Bool, true, false, inl, inr}
use Rattle.std.specs.Prelude.{filter, if◌then◌else◌}
use Rattle.std.specs.Cmp.{IsStrictWeakOrder}
use Rattle.std.specs.List.Sorted.{IsSortedBy, ties}
use Rattle.std.proofs.lemmas.Bool.{cases_Bool}
use Rattle.std.proofs.lemmas.List.Sorted.{sorted_far, IsStrictWeakOrder-flip, IsStrictWeakOrder-by_number, length_permutation}
use Rattle.line_sums.specs.declared.count.CountedStep.{CountedStep}
use Rattle.line_sums.specs.declared.step.Step.{Step}
use Rattle.line_sums.specs.contracts.step.StepPartialEq.TheImpl.{eq-value}
use Rattle.line_sums.specs.Counting.{price_of, counted_price, IsCounted}
use Rattle.line_sums.specs.Ordered.{AreOrdered, comes_more, counted_once, counted_from, first_counts}
use Rattle.line_sums.specs.Laws.{OneOrder}
use Rattle.line_sums.proofs.Counted.{same_true, permuted}

-- COUNTS

once_price : (price : Step → ℕ) (cs : List CountedStep) (s : Step) → counted_price price (counted_once cs s) ≡ counted_price price cs + price s
once_price price [] s = omega arith
once_price price (c ∷ cs) s =
    elim (cases_Bool (eq-value.it s c.step)) [
      | inl same ↦
          let is : price s ≡ price c.step = ap price (same_true s c.step same) in
          let split : (c.count + 1) * price c.step ≡ c.count * price c.step + price c.step = grind arith in
          rw same (omega (arith, split, is))
      | inr other ↦ rw other (omega (arith, once_price price cs s))
    ]

from_price : (price : Step → ℕ) (cs : List CountedStep) (ss : List Step) → counted_price price (counted_from cs ss) ≡ counted_price price cs + price_of price ss
from_price price cs [] = omega arith
from_price price cs (s ∷ ss) = omega (arith, from_price price (counted_once cs s) ss, once_price price cs s)

-- ordered steps are counted
pub ordered_counts : (steps : List Step) (counted : List CountedStep) → AreOrdered steps counted → IsCounted steps counted
ordered_counts steps counted o = record { same = λ price. permuted price (first_counts steps) counted o.same ∙ from_price price [] steps ∙ omega arith }

once_len : (cs : List CountedStep) (s : Step) → length (counted_once cs s) ≤ length cs + 1
once_len [] s = omega arith
once_len (c ∷ cs) s =
    elim (cases_Bool (eq-value.it s c.step)) [
      | inl same ↦ rw same (omega arith)
      | inr other ↦ rw other (omega (arith, once_len cs s))
    ]

from_len : (cs : List CountedStep) (ss : List Step) → length (counted_from cs ss) ≤ length cs + price_of (λ _. 1) ss
from_len cs [] = omega arith
from_len cs (s ∷ ss) = omega (arith, from_len (counted_once cs s) ss, once_len cs s)

-- there are no more different steps than steps
pub ordered_few : (steps : List Step) (counted : List CountedStep) → AreOrdered steps counted → length counted ≤ price_of (λ _. 1) steps
ordered_few steps counted o = omega (arith, length_permutation (first_counts steps) counted o.same, from_len [] steps)

-- ONE ORDER

module _ {X : Type 0} (lt : X → X → Bool) (o : IsStrictWeakOrder lt) where
  -- none of the elements is less than one
  abbrev Above : X → List X → Type 0
  Above x [] = Unit {0}
  Above x (y ∷ ys) = (lt y x ≡ false) × Above x ys

  above_of : (x : X) (xs : List X) → ((k : ℕ) → k < length xs → lt (get_or xs k x) x ≡ false) → Above x xs
  above_of x [] h = tt
  above_of x (y ∷ ys) h = (h 0 (omega arith), above_of x ys (λ k p. h (suc k) (omega arith)))

  above_if : (x y : X) (l : List X) (b : Bool) → lt y x ≡ false → Above x l → Above x (if b then y ∷ l else l)
  above_if x y l true p q = (p, q)
  above_if x y l false p q = q

  above_kept : (t : X → Bool) (x : X) (xs : List X) → Above x xs → Above x (filter t xs)
  above_kept t x [] h = tt
  above_kept t x (y ∷ ys) h = above_if x y (filter t ys) (t y) h.0 (above_kept t x ys h.1)

  above_sorted : (x : X) (xs : List X) → IsSortedBy lt (x ∷ xs) → Above x xs
  above_sorted x xs up = above_of x xs (λ k p. sorted_far lt o (x ∷ xs) up 0 (suc k) x (omega arith) (omega arith))

  itself : (x : X) → lt x x ≡ false
  itself x = elim (cases_Bool (lt x x)) [ inl less ↦ o.one_way x x less | inr other ↦ other ]

  tie_of : (x y : X) → lt x y ≡ false → lt y x ≡ false → ties lt x y ≡ true
  tie_of x y p q = rw (p, q) refl

  tail_sorted : (x : X) (xs : List X) → IsSortedBy lt (x ∷ xs) → IsSortedBy lt xs
  tail_sorted x xs up k d low high =
      let next : k + 1 ≡ suc k = omega arith in
      let all = up (k + 1) d (omega arith) (omega arith) in
      let e : k + 1 + 1 ≡ suc (k + 1) = omega arith in
      subst (λ (n : ℕ). lt (get_or xs (k + 1) d) (get_or (x ∷ xs) n d) ≡ false) next (subst (λ (n : ℕ). lt (get_or (x ∷ xs) n d) (get_or (x ∷ xs) (k + 1) d) ≡ false) e all)

  -- a head is among the elements of the other list that tie with it
  head_low : (y z : X) (ys zs : List X) → filter (ties lt y) (y ∷ ys) ≡ filter (ties lt y) (z ∷ zs) → IsSortedBy lt (z ∷ zs) → lt y z ≡ false
  head_low y z ys zs same up =
      let own : ties lt y y ≡ true = tie_of y y (itself y) (itself y) in
      let all : Above z (filter (ties lt y) (z ∷ zs)) = above_kept (ties lt y) z (z ∷ zs) (itself z, above_sorted z zs up) in
      let back : Above z (filter (ties lt y) (y ∷ ys)) = subst (λ (l : List X). Above z l) (sym same) all in
      (rw own at back).0

  rest_if : (b : Bool) (y : X) (l m : List X) → (if b then y ∷ l else l) ≡ (if b then y ∷ m else m) → l ≡ m
  rest_if true y l m e = ap tail_of e
    where
      tail_of : List X → List X
      tail_of [] = []
      tail_of (x ∷ xs) = xs
  rest_if false y l m e = e

  pub same_order : (ys zs : List X) → length ys ≡ length zs → IsSortedBy lt ys → IsSortedBy lt zs → ((x : X) → filter (ties lt x) ys ≡ filter (ties lt x) zs) → ys ≡ zs
  same_order [] [] size up vp same = refl
  same_order [] (z ∷ zs) size up vp same = absurd (omega arith)
  same_order (y ∷ ys) [] size up vp same = absurd (omega arith)
  same_order (y ∷ ys) (z ∷ zs) size up vp same =
      let low : lt y z ≡ false = head_low y z ys zs (same y) vp in
      let high : lt z y ≡ false = head_low z y zs ys (sym (same z)) up in
      let own : ties lt y y ≡ true = tie_of y y (itself y) (itself y) in
      let tie : ties lt y z ≡ true = tie_of y z low high in
      let heads : y ∷ filter (ties lt y) ys ≡ z ∷ filter (ties lt y) zs = rw tie at (rw own at (same y)) in
      let is : y ≡ z = ap (λ (l : List X). get_or l 0 y) heads in
      let rest : (x : X) → filter (ties lt x) ys ≡ filter (ties lt x) zs = λ x.
      rest_if (ties lt x y) y (filter (ties lt x) ys) (filter (ties lt x) zs) (same x ∙ ap (λ (w : X). if ties lt x w then w ∷ filter (ties lt x) zs else filter (ties lt x) zs) (sym is)) in
      ap (λ (w : X). w ∷ ys) is ∙ ap (λ (l : List X). z ∷ l) (same_order ys zs (omega arith) (tail_sorted y ys up) (tail_sorted z zs vp) rest)

pub one_order : OneOrder
one_order steps counted other a b =
    same_order comes_more (IsStrictWeakOrder-flip _ (IsStrictWeakOrder-by_number (λ (x : CountedStep). x.count))) counted other (length_permutation (first_counts steps) counted a.same ∙ sym (length_permutation (first_counts steps) other b.same)) a.falling b.falling (λ x. a.stable x ∙ sym (b.stable x))
