-- What is found by two numbers among things whose numbers rise, by the first and then by the second.
use Rattle.std.proofs.Common.{◌≡◌, ◌≤◌, ◌<◌, inl, inr, ℕ, List, length, get_or, sym, ap, subst, refl, arith, Less, Equal, Greater}
use Rattle.std.specs.Prelude.{◌⊎◌}
use Rattle.std.specs.declared.cmp.Ordering.{Ordering}
use Rattle.std.specs.Ordering.{MatchOrdering, nat_cmp, ordering_then, ordering_index}
use Rattle.std.specs.List.{HoldsAt}
use Rattle.std.specs.List.Sorted.{IsNonDecreasingBy, IsPartitionPoint}
use Rattle.std.proofs.lemmas.Cmp.{ranked}
use Rattle.std.proofs.lemmas.List.Sorted.{IsNonDecreasingBy-from_default}
use Rattle.std.proofs.lemmas.Bool.{cases_lt}

-- two numbers come before two others
abbrev pub Below : ℕ → ℕ → ℕ → ℕ → Type 0
Below a b c d = (a < c) ⊎ ((a ≡ c) × (b < d))

-- none comes before itself, and what comes before comes before what comes later
below_not : (a b c d : ℕ) → Below a b c d → a ≡ c → b ≡ d → ⊥
below_not a b c d (inl less) first second = omega arith
below_not a b c d (inr (same, less)) first second = omega arith

below_more : (a b c d e f : ℕ) → Below a b c d → Below c d e f → Below a b e f
below_more a b c d e f (inl less) (inl more) = inl (omega arith)
below_more a b c d e f (inl less) (inr (same, more)) = inl (omega arith)
below_more a b c d e f (inr (same, less)) (inl more) = inl (omega arith)
below_more a b c d e f (inr (same, less)) (inr (also, more)) = inr (omega arith, omega arith)

-- what an answer says of two numbers and two others
abbrev Ranked : ℕ → ℕ → ℕ → ℕ → Ordering → Type 0
Ranked a b k l o = MatchOrdering o (Below a b k l) ((a ≡ k) × (b ≡ l)) (Below k l a b)

then_ranked : (a b k l : ℕ) (p q : Ordering) → MatchOrdering p (a < k) (a ≡ k) (k < a) → MatchOrdering q (b < l) (b ≡ l) (l < b) → Ranked a b k l (ordering_then p q)
then_ranked a b k l Less q first second = inl first
then_ranked a b k l Greater q first second = inl first
then_ranked a b k l Equal Less first second = inr (first, second)
then_ranked a b k l Equal Equal first second = (first, second)
then_ranked a b k l Equal Greater first second = inr (sym first, second)

pair_ranked : (a b k l : ℕ) (o : Ordering) → o ≡ ordering_then (nat_cmp a k) (nat_cmp b l) → Ranked a b k l o
pair_ranked a b k l o e =
    subst (Ranked a b k l) (sym e) (then_ranked a b k l (nat_cmp a k) (nat_cmp b l) (ranked a k (nat_cmp a k) refl) (ranked b l (nat_cmp b l) refl))

-- an answer doesn't fall where the numbers rise
index_rises : (a b c d k l : ℕ) (o p : Ordering) → Ranked a b k l o → Ranked c d k l p → Below a b c d → ordering_index o ≤ ordering_index p
index_rises a b c d k l Less p first second before = omega arith
index_rises a b c d k l Equal Less (e, f) second before = absurd (below_not a b k l (below_more a b c d k l before second) e f)
index_rises a b c d k l Equal Equal first second before = omega arith
index_rises a b c d k l Equal Greater first second before = omega arith
index_rises a b c d k l Greater Less first second before = absurd (below_not k l k l (below_more k l c d k l (below_more k l a b c d first before) second) refl refl)
index_rises a b c d k l Greater Equal first (e, f) before = absurd (below_not k l c d (below_more k l a b c d first before) (sym e) (sym f))
index_rises a b c d k l Greater Greater first second before = omega arith

module _ {X : Type 0} (one two : X → ℕ) (xs : List X) (d : X) (rising : (i j : ℕ) → i < j → j < length xs → Below (one (get_or xs i d)) (two (get_or xs i d)) (one (get_or xs j d)) (two (get_or xs j d))) (k l : ℕ) where
  abbrev compared : X → Ordering
  compared x = ordering_then (nat_cmp (one x) k) (nat_cmp (two x) l)

  says : (i : ℕ) (o : Ordering) → o ≡ compared (get_or xs i d) → Ranked (one (get_or xs i d)) (two (get_or xs i d)) k l o
  says i o e = pair_ranked (one (get_or xs i d)) (two (get_or xs i d)) k l o e

  comparisons_rise : IsNonDecreasingBy (λ x. ordering_index (compared x)) xs
  comparisons_rise = IsNonDecreasingBy-from_default (λ x. ordering_index (compared x)) xs d (λ i j le inside. elim (cases_lt i j) [
    | inl less ↦ index_rises (one (get_or xs i d)) (two (get_or xs i d)) (one (get_or xs j d)) (two (get_or xs j d)) k l (compared (get_or xs i d)) (compared (get_or xs j d)) (says i (compared (get_or xs i d)) refl) (says j (compared (get_or xs j d)) refl) (rising i j less inside)
    | inr more ↦
        let same : i ≡ j = omega arith in
        let equal : ordering_index (compared (get_or xs i d)) ≡ ordering_index (compared (get_or xs j d)) = ap (λ (n : ℕ). ordering_index (compared (get_or xs n d))) same in
        omega arith
  ])

  -- a search ends at a place of both numbers
  pub pair_found : (i : ℕ) → HoldsAt (λ x. compared x ≡ Equal) xs i → (one (get_or xs i d) ≡ k) × (two (get_or xs i d) ≡ l)
  pair_found i equal = says i Equal (sym (equal d))

  -- or nothing has both
  pub pair_not_found : (at : ℕ) → (IsNonDecreasingBy (λ x. ordering_index (compared x)) xs → IsPartitionPoint (λ x. compared x ≡ Less) (λ x. compared x ≡ Greater) xs at) → (i : ℕ) → i < length xs → one (get_or xs i d) ≡ k → two (get_or xs i d) ≡ l → ⊥
  pair_not_found at parted i inside first second = elim (cases_lt i at) [
    | inl less ↦ below_not (one (get_or xs i d)) (two (get_or xs i d)) k l (says i Less (sym ((parted comparisons_rise).0 i d (omega arith) less))) first second
    | inr more ↦ below_not k l (one (get_or xs i d)) (two (get_or xs i d)) (says i Greater (sym ((parted comparisons_rise).1 i d more inside))) (sym first) (sym second)
  ]
