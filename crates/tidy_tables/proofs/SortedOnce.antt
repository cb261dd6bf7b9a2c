-- A list has one order in which its items rise. So two lists have the same items exactly where they are one list once they are sorted.
use Rattle.std.proofs.Common.{◌≡◌, ◌≤◌, ◌<◌, ◌+◌, inl, inr, ℕ, suc, List, [], ◌∷◌, length, get_or, map, cond, Bool, Ordering, true, false, sym, ap, subst, refl, arith}
use Rattle.std.specs.Prelude.{count_by}
use Rattle.std.specs.declared.cmp.Ordering.TheVariants.{Less, Equal, Greater}
use Rattle.std.specs.Ordering.{is_lt, is_eq, ordering_reverse}
use Rattle.std.specs.Cmp.{IsTotalOrder}
use Rattle.std.specs.Cmp.Lexicographic.{pointwise}
use Rattle.std.specs.List.Sorted.{IsPermutation, IsSortedBy}
use Rattle.std.proofs.lemmas.Bool.{cases_Bool, cond-true, cond-false, false≢true, and_parts, and_from}
use Rattle.std.proofs.lemmas.Cmp.{tied_itself}
use Rattle.std.proofs.lemmas.List.Sums.{sum_by-cons}
use Rattle.std.proofs.lemmas.List.Sorted.{ranks_by, sorted_far, sum_by-IsPermutation}

-- an item that is counted stands somewhere
some_counted : {X Y : Type 0} (f : X → Y) (p : Y → Bool) (xs : List X) → 1 ≤ count_by p (map f xs) → (k : ℕ) × (k < length xs) × ((d : X) → p (f (get_or xs k d)) ≡ true)
some_counted f p [] some = absurd (omega arith)
some_counted {X} {Y} f p (x ∷ xs) some = elim (cases_Bool (p (f x))) [
  | inl passes ↦ (0, omega arith, λ d. passes)
  | inr fails ↦
      let parts : count_by p (map f (x ∷ xs)) ≡ cond {A = ℕ} (p (f x)) 1 0 + count_by p (map f xs) = sum_by-cons (λ (y : Y). cond {A = ℕ} (p y) 1 0) (f x) (map f xs) in
      let none : cond {A = ℕ} (p (f x)) 1 0 ≡ 0 = cond-false {A = ℕ} (p (f x)) 1 0 fails in
      let rest = some_counted f p xs (omega arith) in
      (suc rest.0, omega (arith, rest.1), rest.2)
]

-- two orders that neither is below
neither_below : (a b : Ordering) → a ≡ ordering_reverse b → is_lt a ≡ false → is_lt b ≡ false → a ≡ Equal
neither_below Less b turned no_a no_b = absurd (false≢true (sym no_a))
neither_below Equal b turned no_a no_b = refl
neither_below Greater Less turned no_a no_b = absurd (false≢true (sym no_b))
neither_below Greater Equal turned no_a no_b = cc
neither_below Greater Greater turned no_a no_b = cc

equal_tests : (a : Ordering) → is_eq a ≡ true → a ≡ Equal
equal_tests Less is = absurd (false≢true is)
equal_tests Equal is = refl
equal_tests Greater is = absurd (false≢true is)

module _ {X Y : Type 0} (f : X → Y) (R : Y → Y → Ordering) (o : IsTotalOrder R) (exact : (x y : Y) → R x y ≡ Equal → x ≡ y) where
  -- no item is below one that stands before it
  abbrev Rise : List X → Type 0
  Rise xs = (i j : ℕ) (d : X) → i ≤ j → j < length xs → is_lt (R (f (get_or xs j d)) (f (get_or xs i d))) ≡ false

  abbrev is_same : Y → Y → Bool
  is_same x y = is_eq (R x y)

  abbrev terms : Y → Y → ℕ
  terms z y = cond {A = ℕ} (is_same z y) 1 0

  itself : (y : Y) → is_same y y ≡ true
  itself y = ap is_eq (tied_itself o y)

  -- the first item of one list isn't below that of another in which it stands
  not_below : (x y : X) (ys : List X) → Rise (y ∷ ys) → 1 ≤ count_by (is_same (f x)) (map f (y ∷ ys)) → is_lt (R (f x) (f y)) ≡ false
  not_below x y ys rise some =
      let there = some_counted f (is_same (f x)) (y ∷ ys) some in
      let same : f x ≡ f (get_or (y ∷ ys) there.0 y) = exact (f x) (f (get_or (y ∷ ys) there.0 y)) (equal_tests (R (f x) (f (get_or (y ∷ ys) there.0 y))) (there.2 y)) in
      subst (λ (z : Y). is_lt (R z (f y)) ≡ false) (sym same) (rise 0 there.0 y (omega arith) there.1)

  counts : (z : Y) (x : X) (xs : List X) → count_by (is_same z) (map f (x ∷ xs)) ≡ terms z (f x) + count_by (is_same z) (map f xs)
  counts z x xs = sum_by-cons (terms z) (f x) (map f xs)

  counts_itself : (x : X) (xs : List X) → 1 ≤ count_by (is_same (f x)) (map f (x ∷ xs))
  counts_itself x xs =
      let parts : count_by (is_same (f x)) (map f (x ∷ xs)) ≡ terms (f x) (f x) + count_by (is_same (f x)) (map f xs) = counts (f x) x xs in
      let one : terms (f x) (f x) ≡ 1 = cond-true {A = ℕ} (is_same (f x) (f x)) 1 0 (itself (f x)) in
      omega arith

  once : (xs ys : List X) → Rise xs → Rise ys → ((z : Y) → count_by (is_same z) (map f ys) ≡ count_by (is_same z) (map f xs)) → map f xs ≡ map f ys
  once [] [] rise rises same = refl
  once [] (y ∷ ys) rise rises same =
      let some : 1 ≤ count_by (is_same (f y)) (map f (y ∷ ys)) = counts_itself y ys in
      let none : count_by (is_same (f y)) (map f (y ∷ ys)) ≡ 0 = same (f y) in
      absurd (omega arith)
  once (x ∷ xs) [] rise rises same =
      let some : 1 ≤ count_by (is_same (f x)) (map f (x ∷ xs)) = counts_itself x xs in
      let none : 0 ≡ count_by (is_same (f x)) (map f (x ∷ xs)) = same (f x) in
      absurd (omega arith)
  once (x ∷ xs) (y ∷ ys) rise rises same =
      let first = not_below x y ys rises (subst (λ (n : ℕ). 1 ≤ n) (sym (same (f x))) (counts_itself x xs)) in
      let second = not_below y x xs rise (subst (λ (n : ℕ). 1 ≤ n) (same (f y)) (counts_itself y ys)) in
      let here : f x ≡ f y = exact (f x) (f y) (neither_below (R (f x) (f y)) (R (f y) (f x)) (o.antisymm (f x) (f y)) first second) in
      let rest : map f xs ≡ map f ys = once xs ys (λ i j d order inside. rise (suc i) (suc j) d (omega arith) (omega arith)) (λ i j d order inside. rises (suc i) (suc j) d (omega arith) (omega arith)) (λ z.
      let all = same z in
      let one : terms z (f x) ≡ terms z (f y) = ap (terms z) here in
      let old : count_by (is_same z) (map f (x ∷ xs)) ≡ terms z (f x) + count_by (is_same z) (map f xs) = counts z x xs in
      let new : count_by (is_same z) (map f (y ∷ ys)) ≡ terms z (f y) + count_by (is_same z) (map f ys) = counts z y ys in
      omega arith) in
      cc

  sorted_rise : (xs : List X) → IsSortedBy (λ (x y : X). is_lt (R (f x) (f y))) xs → Rise xs
  sorted_rise xs sorted i j d order inside = sorted_far (λ (x y : X). is_lt (R (f x) (f y))) (ranks_by o f) xs sorted i j d order inside

  -- lists that are sorted and have the same items are one
  pub sorted_once : (xs ys : List X) → IsSortedBy (λ (x y : X). is_lt (R (f x) (f y))) xs → IsSortedBy (λ (x y : X). is_lt (R (f x) (f y))) ys → IsPermutation (map f xs) (map f ys) → map f xs ≡ map f ys
  sorted_once xs ys sorted others same =
      once xs ys (sorted_rise xs sorted) (sorted_rise ys others) (λ z. sum_by-IsPermutation (terms z) (map f xs) (map f ys) same)

-- items that a test finds to be the same are
module _ {X Y : Type 0} (f : X → Y) (E : X → X → Bool) (tells : (x y : X) → E x y ≡ true → f x ≡ f y) (told : (x y : X) → f x ≡ f y → E x y ≡ true) where
  pub tested_same : (xs ys : List X) → pointwise E xs ys ≡ true → map f xs ≡ map f ys
  tested_same [] [] is = refl
  tested_same [] (y ∷ ys) is = absurd (false≢true is)
  tested_same (x ∷ xs) [] is = absurd (false≢true is)
  tested_same (x ∷ xs) (y ∷ ys) is =
      let parts = and_parts (E x y) (pointwise E xs ys) is in
      let first : f x ≡ f y = tells x y parts.0 in
      let rest : map f xs ≡ map f ys = tested_same xs ys parts.1 in
      cc

  pub same_tested : (xs ys : List X) → map f xs ≡ map f ys → pointwise E xs ys ≡ true
  same_tested [] [] same = refl
  same_tested [] (y ∷ ys) same = cc
  same_tested (x ∷ xs) [] same = cc
  same_tested (x ∷ xs) (y ∷ ys) same =
      let first : f x ≡ f y = cc in
      let rest : map f xs ≡ map f ys = cc in
      and_from (E x y) (pointwise E xs ys) (told x y first) (same_tested xs ys rest)
