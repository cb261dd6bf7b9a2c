-- Lists of numbers: one made from what is known of each place, lists with the same members, and sums over two lists.
use Rattle.std.proofs.Common.{◌≡◌, ◌≢◌, ◌<◌, inl, inr, ℕ, zero, suc, List, [], ◌∷◌, ◌++◌, length, get_or, sym, subst, refl, arith}
use Rattle.std.specs.List.{Contains, remove, sum_by}
use Rattle.std.specs.List.Sorted.{IsPermutation}
use Rattle.std.proofs.Math.ListN.{get_or-append}
use Rattle.std.proofs.lemmas.Bool.{cases_lt}
use Rattle.std.proofs.lemmas.List.{get_or_push, length_push, nil_from_length}
use Rattle.std.proofs.lemmas.List.Sums.{sum_by-cons}
use Rattle.std.proofs.lemmas.List.Sorted.{IsPermutation-refl, IsPermutation-sym, IsPermutation-trans, IsPermutation-cons, IsPermutation-remove, Contains-permutation, length_permutation}

-- numbers of which each is so of its place
pub record AreChosen (IsSo : ℕ → ℕ → Type 0) (n : ℕ) : Type 0 where
  pub numbers : List ℕ
  pub size : length numbers ≡ n
  pub each : (k : ℕ) → k < n → IsSo k (get_or numbers k 0)

-- where there is a number for each place, there is a list of them
pub chosen : (IsSo : ℕ → ℕ → Type 0) (n : ℕ) → ((k : ℕ) → k < n → (x : ℕ) × IsSo k x) → AreChosen IsSo n
chosen IsSo zero there = record { numbers = []; size = refl; each = λ k inside. absurd (omega arith) }
chosen IsSo (suc n) there =
    let before : AreChosen IsSo n = chosen IsSo n (λ k inside. there k (omega arith)) in
    let (x, so) = there n (omega arith) in
    let size : length before.numbers ≡ n = before.size in
    record {
      numbers = before.numbers ++ x ∷ [];
      size = omega (arith, length_push before.numbers x);
      each = λ k inside. elim (cases_lt k n) [
        | inl earlier ↦ subst (IsSo k) (sym (get_or-append before.numbers (x ∷ []) 0 k (omega arith))) (before.each k earlier)
        | inr late ↦
            let here : n ≡ k = omega arith in
            subst (λ (z : ℕ). IsSo z (get_or (before.numbers ++ x ∷ []) z 0)) here (subst (IsSo n) (sym (get_or_push before.numbers x 0 n size)) so)
      ];
    }

-- none of the numbers stands twice
abbrev pub AllDiffer : List ℕ → Type 0
AllDiffer [] = Unit {0}
AllDiffer (x ∷ xs) = ((z : ℕ) → Contains xs z → z ≢ x) × AllDiffer xs

-- a number that is contained stands first or behind
contains_behind : (x : ℕ) (xs : List ℕ) (z : ℕ) → Contains (x ∷ xs) z → z ≢ x → Contains xs z
contains_behind x xs z (zero, inside, is) other = absurd (other (sym is))
contains_behind x xs z (suc k, inside, is) other = (k, omega arith, is)

-- so is one of those behind the first
contains_more : (x : ℕ) (xs : List ℕ) (z : ℕ) → Contains xs z → Contains (x ∷ xs) z
contains_more x xs z (k, inside, is) = (suc k, omega arith, is)

-- Numbers that differ, and as many others among which all of them are, are the same in another order.
pub same_members : (xs ys : List ℕ) → AllDiffer xs → length ys ≡ length xs → ((z : ℕ) → Contains xs z → Contains ys z) → IsPermutation xs ys
same_members [] ys differ size within = subst (λ (zs : List ℕ). IsPermutation [] zs) (sym (nil_from_length ys size)) (IsPermutation-refl [])
same_members (x ∷ xs) ys (apart, differ) size within =
    let (k, inside, is) = within x (0, omega arith, refl) in
    let there : IsPermutation ys (x ∷ remove ys k) = IsPermutation-remove ys k x inside (sym is) in
    let left : length (x ∷ remove ys k) ≡ length ys = length_permutation ys (x ∷ remove ys k) there in
    let rest : IsPermutation xs (remove ys k) =
    same_members xs (remove ys k) differ (omega arith) (λ z among.
    let still : Contains (x ∷ remove ys k) z = Contains-permutation ys (x ∷ remove ys k) z there (within z (contains_more x xs z among)) in
    contains_behind x (remove ys k) z still (apart z among)) in
    IsPermutation-trans (x ∷ xs) (x ∷ remove ys k) ys (IsPermutation-cons x xs (remove ys k) rest) (IsPermutation-sym ys (x ∷ remove ys k) there)

-- two lists, at each place of which two measures are the same, have the same sums
pub sum_pairs : {X Y : Type 0} (f : X → ℕ) (g : Y → ℕ) (xs : List X) (ys : List Y) (d : X) (e : Y) → length xs ≡ length ys → ((k : ℕ) → k < length xs → f (get_or xs k d) ≡ g (get_or ys k e)) → sum_by f xs ≡ sum_by g ys
sum_pairs f g [] [] d e size each = refl
sum_pairs f g [] (y ∷ ys) d e size each = absurd (omega arith)
sum_pairs f g (x ∷ xs) [] d e size each = absurd (omega arith)
sum_pairs f g (x ∷ xs) (y ∷ ys) d e size each =
    let rest : sum_by f xs ≡ sum_by g ys = sum_pairs f g xs ys d e (omega arith) (λ k inside. each (suc k) (omega arith)) in
    let here : f x ≡ g y = each 0 (omega arith) in
    let one = sum_by-cons f x xs in
    let other = sum_by-cons g y ys in
    omega arith

-- where a sum isn't 0, one of its terms isn't
pub some_term : {X : Type 0} (f : X → ℕ) (xs : List X) (d : X) → 0 < sum_by f xs → (k : ℕ) × (k < length xs) × (0 < f (get_or xs k d))
some_term f [] d some = absurd (omega arith)
some_term f (x ∷ xs) d some = elim (cases_lt 0 (f x)) [
  | inl here ↦ (0, omega arith, here)
  | inr none ↦
      let (k, inside, is) = some_term f xs d (let sum = sum_by-cons f x xs in omega arith) in
      (suc k, omega arith, is)
]
