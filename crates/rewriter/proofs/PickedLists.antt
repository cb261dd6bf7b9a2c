-- The things of a list by their numbers: one that is made number by number, and those that pass a test.
use Rattle.std.proofs.Common.{◌≡◌, ◌≢◌, ◌≤◌, ◌<◌, ◌+◌, ◌∙◌, ◌⊎◌, ℕ, zero, suc, List, [], ◌∷◌, ◌++◌, length, get_or, map, cond, Bool, true, false, inl, inr, sym, ap, refl, subst, arith}
use Rattle.std.specs.Prelude.{filter}
use Rattle.std.specs.List.{Contains}
use Rattle.std.specs.List.Sorted.{IsStrictlyIncreasing}
use Rattle.std.proofs.lemmas.Bool.{cases_eq}
use Rattle.list_lookup.proofs.GrownLists.{each_more, counted_more}

-- a list is made of things that are there for each number
pub choose : {X : Type 0} (P : ℕ → X → Type 0) (n : ℕ) → ((k : ℕ) → k < n → (x : X) × P k x) → (xs : List X) × (length xs ≡ n) × ((k : ℕ) (d : X) → k < n → P k (get_or xs k d))
choose P zero each = ([], refl, λ k d less. absurd (omega arith))
choose P (suc n) each =
    let front = choose P n (λ k less. each k (omega arith)) in
    let last = each n (omega arith) in
    let next : n + 1 ≡ suc n = omega arith in
    (front.0 ++ last.0 ∷ [], counted_more n front.0 last.0 front.1 ∙ next, λ k d less. each_more P n front.0 last.0 front.1 front.2 last.1 k d (omega arith))

abbrev In : List ℕ → ℕ → Type 0
In [] k = ⊥
In (x ∷ xs) k = (x ≡ k) ⊎ In xs k

-- numbers rise, from one on
abbrev RiseFrom : ℕ → List ℕ → Type 0
RiseFrom low [] = Unit {0}
RiseFrom low (k ∷ ks) = (low ≤ k) × RiseFrom (suc k) ks

in_from : (low k : ℕ) (ks : List ℕ) → RiseFrom low ks → In ks k → low ≤ k
in_from low k [] rise member = absurd member
in_from low k (x ∷ ks) rise (inl same) = omega (arith, rise.0, same)
in_from low k (x ∷ ks) rise (inr later) = omega (arith, rise.0, in_from (suc x) k ks rise.1 later)

contains_in : (ks : List ℕ) (k : ℕ) → Contains ks k → In ks k
contains_in [] k (i, less, is) = absurd (omega arith)
contains_in (x ∷ ks) k (zero, less, is) = inl is
contains_in (x ∷ ks) k (suc i, less, is) = inr (contains_in ks k (i, omega arith, is))

in_contains : (ks : List ℕ) (k : ℕ) → In ks k → Contains ks k
in_contains [] k member = absurd member
in_contains (x ∷ ks) k (inl same) = (0, omega arith, same)
in_contains (x ∷ ks) k (inr later) = let there = in_contains ks k later in (suc there.0, omega (arith, there.1), there.2)

rise_from : (low : ℕ) (ks : List ℕ) → IsStrictlyIncreasing ks → (0 < length ks → low ≤ get_or ks 0 0) → RiseFrom low ks
rise_from low [] rise first = tt
rise_from low (k ∷ ks) rise first = (
  first (omega arith),
  rise_from (suc k) ks
      (λ i less.
      let next : suc i + 1 ≡ suc (i + 1) = omega arith in
      subst (λ (z : ℕ). get_or ks i 0 < get_or (k ∷ ks) z 0) next (rise (suc i) (omega arith)))
      (λ some.
      let next : zero + 1 ≡ suc zero = omega arith in
      let less : k < get_or ks 0 0 = subst (λ (z : ℕ). k < get_or (k ∷ ks) z 0) next (rise 0 (omega arith)) in
      omega arith),
)

either : (b : Bool) → (b ≡ true) ⊎ (b ≡ false)
either true = inl refl
either false = inr refl

module _ {X : Type 0} (test : X → Bool) (d : X) (thing : ℕ → X) where
  kept : (x : X) (xs : List X) → test x ≡ true → filter test (x ∷ xs) ≡ x ∷ filter test xs
  kept x xs passes = ap (λ (b : Bool). cond b (x ∷ filter test xs) (filter test xs)) passes

  dropped : (x : X) (xs : List X) → test x ≡ false → filter test (x ∷ xs) ≡ filter test xs
  dropped x xs fails = ap (λ (b : Bool). cond b (x ∷ filter test xs) (filter test xs)) fails

  -- the things from a number on
  filter_from : (xs : List X) (o : ℕ) (ks : List ℕ) → ((i : ℕ) → i < length xs → thing (o + i) ≡ get_or xs i d) → RiseFrom o ks → ((k : ℕ) → In ks k → (k < o + length xs) × (test (thing k) ≡ true)) → ((i : ℕ) → i < length xs → test (get_or xs i d) ≡ true → In ks (o + i)) → filter test xs ≡ map thing ks
  filter_from [] o [] are rise each all = refl
  filter_from [] o (k ∷ ks) are rise each all = absurd (omega (arith, rise.0, (each k (inl refl)).0))
  filter_from (x ∷ xs) o [] are rise each all = elim (either (test x)) [
    | inl passes ↦ absurd (all 0 (omega arith) passes)
    | inr fails ↦
        dropped x xs fails ∙ filter_from xs (suc o) []
        (λ i less. let next : o + suc i ≡ suc o + i = omega arith in subst (λ (z : ℕ). thing z ≡ get_or xs i d) next (are (suc i) (omega arith)))
        tt
        (λ k member. absurd member)
        (λ i less passes. all (suc i) (omega arith) passes)
  ]
  filter_from (x ∷ xs) o (k ∷ ks) are rise each all = elim (cases_eq o k) [
    | inl same ↦
        let start : o + 0 ≡ k = omega arith in
        let here : thing k ≡ x = subst (λ (z : ℕ). thing z ≡ x) start (are 0 (omega arith)) in
        let passes : test x ≡ true = ap test (sym here) ∙ (each k (inl refl)).1 in
        let rest : filter test xs ≡ map thing ks =
        filter_from xs (suc o) ks
        (λ i less. let next : o + suc i ≡ suc o + i = omega arith in subst (λ (z : ℕ). thing z ≡ get_or xs i d) next (are (suc i) (omega arith)))
        (subst (λ (z : ℕ). RiseFrom (suc z) ks) (sym same) rise.1)
        (λ j member. let one = each j (inr member) in (omega (arith, one.0), one.1))
        (λ i less passes.
        elim (all (suc i) (omega arith) passes) [
          | inl first ↦ absurd (omega (arith, same, first))
          | inr later ↦ let next : o + suc i ≡ suc o + i = omega arith in subst (λ (z : ℕ). In ks z) next later
        ]) in
        kept x xs passes ∙ ap (λ (z : List X). x ∷ z) rest ∙ ap (λ (z : X). z ∷ map thing ks) (sym here)
    | inr other ↦
        let apart : o ≢ k = other in
        let past : suc o ≤ k = omega (arith, rise.0, apart) in
        elim (either (test x)) [
          | inl passes ↦
              let most : k ≤ o + 0 = in_from k (o + 0) (k ∷ ks) (omega arith, rise.1) (all 0 (omega arith) passes) in
              absurd (omega arith)
          | inr fails ↦
              dropped x xs fails ∙ filter_from xs (suc o) (k ∷ ks)
              (λ i less. let next : o + suc i ≡ suc o + i = omega arith in subst (λ (z : ℕ). thing z ≡ get_or xs i d) next (are (suc i) (omega arith)))
              (past, rise.1)
              (λ j member. let one = each j member in (omega (arith, one.0), one.1))
              (λ i less passes. let next : o + suc i ≡ suc o + i = omega arith in subst (λ (z : ℕ). In (k ∷ ks) z) next (all (suc i) (omega arith) passes))
        ]
  ]

-- The things that pass a test are those with some rising numbers, where these are the numbers of all that pass.
pub filter_is : {X : Type 0} (test : X → Bool) (d : X) (xs : List X) (ks : List ℕ) → IsStrictlyIncreasing ks → ((k : ℕ) → Contains ks k → (k < length xs) × (test (get_or xs k d) ≡ true)) → ((k : ℕ) → k < length xs → test (get_or xs k d) ≡ true → Contains ks k) → filter test xs ≡ map (λ (k : ℕ). get_or xs k d) ks
filter_is {X} test d xs ks rise each all =
    filter_from test d (λ (k : ℕ). get_or xs k d) xs 0 ks
    (λ i less. let same : 0 + i ≡ i = omega arith in ap (λ (z : ℕ). get_or xs z d) same)
    (rise_from 0 ks rise (λ some. omega arith))
    (λ k member. let one = each k (in_contains ks k member) in (omega (arith, one.0), one.1))
    (λ i less passes. let same : i ≡ 0 + i = omega arith in subst (λ (z : ℕ). In ks z) same (contains_in ks i (all i less passes)))
