-- The order in which movable sections are due: there is one.
use Rattle.std.proofs.Common.{◌≡◌, ◌<◌, ◌⊎◌, ◌∙◌, inl, inr, ℕ, zero, suc, List, [], ◌∷◌, refl, sym, ap, subst, arith}
use Rattle.std.specs.List.{AllPairs, Contains}
use Rattle.elf_place.specs.Layout.{IsBefore, IsMovingOrder}

-- none stands before itself, nor do two before each other
before_once : (file : List ℕ) (i j : ℕ) → IsBefore file i j → IsBefore file j i → ⊥
before_once file i j (inl less) (inl more) = omega arith
before_once file i j (inl less) (inr (same, more)) = omega arith
before_once file i j (inr (same, less)) (inl more) = omega arith
before_once file i j (inr (same, less)) (inr (other, more)) = omega arith

before_itself : (file : List ℕ) (i j : ℕ) → IsBefore file i j → i ≡ j → ⊥
before_itself file i j before same = before_once file i j before (subst (λ (n : ℕ). IsBefore file n i) same (subst (λ (n : ℕ). IsBefore file i n) (sym same) before))

-- the first one stands before each that is among the others
first_before : (file : List ℕ) (x : ℕ) (xs : List ℕ) → AllPairs (IsBefore file) (x ∷ xs) → (i : ℕ) → Contains xs i → IsBefore file x i
first_before file x xs sorted i (k, inside, is) = subst (λ (n : ℕ). IsBefore file x n) is (sorted zero (suc k) i (omega arith) (omega (arith, inside)))

tail_sorted : (file : List ℕ) (x : ℕ) (xs : List ℕ) → AllPairs (IsBefore file) (x ∷ xs) → AllPairs (IsBefore file) xs
tail_sorted file x xs sorted = λ i j d less within. sorted (suc i) (suc j) d (omega (arith, less)) (omega (arith, within))

in_front : (x : ℕ) (xs : List ℕ) → Contains (x ∷ xs) x
in_front x xs = (zero, omega arith, refl)

behind : (x i : ℕ) (xs : List ℕ) → Contains xs i → Contains (x ∷ xs) i
behind x i xs (k, inside, is) = (suc k, omega (arith, inside), is)

-- one of these is the first, or is among the others
front_or : (x i : ℕ) (xs : List ℕ) → Contains (x ∷ xs) i → (x ≡ i) ⊎ Contains xs i
front_or x i xs (zero, inside, is) = inl is
front_or x i xs (suc k, inside, is) = inr (k, omega (arith, inside), is)

-- two sorted lists with the same members are one
sorted_once : (file xs ys : List ℕ) → AllPairs (IsBefore file) xs → AllPairs (IsBefore file) ys → ((i : ℕ) → Contains xs i → Contains ys i) → ((i : ℕ) → Contains ys i → Contains xs i) → xs ≡ ys
sorted_once file [] [] one other to from = refl
sorted_once file [] (y ∷ ys) one other to from = let c = from y (in_front y ys) in let inside : c.0 < 0 = c.1 in absurd (omega arith)
sorted_once file (x ∷ xs) [] one other to from = let c = to x (in_front x xs) in let inside : c.0 < 0 = c.1 in absurd (omega arith)
sorted_once file (x ∷ xs) (y ∷ ys) one other to from =
    let same : x ≡ y = elim (front_or y x ys (to x (in_front x xs))) [
      | inl e ↦ sym e
      | inr later ↦ elim (front_or x y xs (from y (in_front y ys))) [
        | inl e ↦ e
        | inr after ↦ absurd (before_once file x y (first_before file x xs one y after) (first_before file y ys other x later))
      ]
    ] in
    let forth : (i : ℕ) → Contains xs i → Contains ys i = λ i c. elim (front_or y i ys (to i (behind x i xs c))) [
      | inl e ↦ absurd (before_itself file x i (first_before file x xs one i c) (same ∙ e))
      | inr later ↦ later
    ] in
    let back : (i : ℕ) → Contains ys i → Contains xs i = λ i c. elim (front_or x i xs (from i (behind y i ys c))) [
      | inl e ↦ absurd (before_itself file y i (first_before file y ys other i c) (sym same ∙ e))
      | inr later ↦ later
    ] in
    ap (λ (n : ℕ). n ∷ xs) same ∙ ap (λ (zs : List ℕ). y ∷ zs) (sorted_once file xs ys (tail_sorted file x xs one) (tail_sorted file y ys other) forth back)

pub order_once : (file xs ys : List ℕ) → IsMovingOrder file xs → IsMovingOrder file ys → xs ≡ ys
order_once file xs ys one other =
    sorted_once file xs ys one.sorted other.sorted
    (λ i c. (other.movable i).1 ((one.movable i).0 c))
    (λ i c. (one.movable i).1 ((other.movable i).0 c))
