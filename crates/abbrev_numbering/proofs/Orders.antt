-- The used declarations, in order of place and in any other.
use Rattle.std.proofs.Common.{◌≡◌, ◌≢◌, ◌≤◌, ◌<◌, ◌+◌, ◌⊎◌, inl, inr, ℕ, zero, suc, Bool, false, cond, ltb, eqb, List, [], ◌∷◌, ◌++◌, length, get_or, take, ap, ◌∙◌, refl, subst, Ordering, arith}
use Rattle.std.specs.List.{count_by, sum_by, All, Contains}
use Rattle.std.specs.Ordering.{nat_cmp, ordering_then, is_lt}
use Rattle.std.specs.List.Sorted.{IsPermutation, IsSorted}
use Rattle.std.proofs.lemmas.Bool.{cond_both, ltb-true, lt-ltb, ne_eqb, eq-eqb, cond-true, cond-false, cases_eq, cases_lt}
use Rattle.std.proofs.lemmas.Bool.Decides.{nat_tests}
use Rattle.std.proofs.lemmas.List.{get_or-take, length_push, get_or_default, length-take-le, take_all}
use Rattle.std.proofs.lemmas.List.Sums.{sum_by_push, sum_by_more, sum_by-take-le, get_or-le-sum_by, count_by-le-length}
use Rattle.std.proofs.lemmas.List.Elements.{All-nil, All-push, All-weaker, All-get_or, Contains-append_left, Contains-push}
use Rattle.std.proofs.lemmas.List.Sorted.{sum_by-IsPermutation, All-permutation, Contains-permutation, length_permutation}
use Rattle.leb_codec.specs.Numbering.{IsUsed, used_count}
use Rattle.abbrev_numbering.specs.inside.Order.{Used, used_at, used_among, place_at, ArePlaces}

abbrev pub no_use : Used
no_use = (record { 0 = 0 }, 0)

-- how many uses the k-th has
abbrev pub count_at : List Used → ℕ → ℕ
count_at order k = (get_or order k no_use).0.0

abbrev is_at : ℕ → Used → Bool
is_at p e = eqb e.1 p

-- a used declaration among the first n
pub record IsEntry (uses : List ℕ) (n : ℕ) (e : Used) : Type 0 where
  pub below : e.1 < n
  pub count : e.0.0 ≡ get_or uses e.1 0
  pub some : 0 < e.0.0

module _ (uses : List ℕ) where
  used_later : (n p : ℕ) → n ≤ p → count_by (is_at p) (used_among uses n) ≡ 0
  used_later zero p above = refl
  used_later (suc n) p above =
      let before = used_later n p (omega arith) in
      cond_both (ltb 0 (get_or uses n 0)) (used_among uses n ++ used_at uses n ∷ []) (used_among uses n) (λ zs. count_by (is_at p) zs ≡ 0)
      (λ _. let push = sum_by_push (λ e. cond (is_at p e) 1 0) (used_among uses n) (used_at uses n) in
      let none = cond-false {A = ℕ} (eqb n p) 1 0 (ne_eqb n p (λ e. absurd (omega arith))) in
      omega (arith, push, none, before))
      (λ _. before)

  used_once : (n p : ℕ) → count_by (is_at p) (used_among uses n) ≤ 1
  used_once zero p = omega arith
  used_once (suc n) p =
      let before = used_once n p in
      let push = sum_by_push (λ e. cond (is_at p e) 1 0) (used_among uses n) (used_at uses n) in
      cond_both (ltb 0 (get_or uses n 0)) (used_among uses n ++ used_at uses n ∷ []) (used_among uses n) (λ zs. count_by (is_at p) zs ≤ 1)
      (λ _. elim (cases_eq n p) [
        | inl same ↦ omega (arith, push, used_later n p (omega arith), cond-true {A = ℕ} (eqb n p) 1 0 (eq-eqb n p same))
        | inr other ↦ omega (arith, push, before, cond-false {A = ℕ} (eqb n p) 1 0 (ne_eqb n p other))
      ])
      (λ _. before)

  entry_more : (n : ℕ) (e : Used) → IsEntry uses n e → IsEntry uses (suc n) e
  entry_more n e h = record { below = omega (arith, h.below); count = h.count; some = h.some }

  used_entries : (n : ℕ) → All (IsEntry uses n) (used_among uses n)
  used_entries zero = All-nil (IsEntry uses zero)
  used_entries (suc n) =
      let before = All-weaker (IsEntry uses n) (IsEntry uses (suc n)) (entry_more n) (used_among uses n) (used_entries n) in
      cond_both (ltb 0 (get_or uses n 0)) (used_among uses n ++ used_at uses n ∷ []) (used_among uses n) (All (IsEntry uses (suc n)))
      (λ test. All-push (IsEntry uses (suc n)) (used_among uses n) (used_at uses n) before (record { below = omega arith; count = refl; some = ltb-true 0 (get_or uses n 0) test }))
      (λ _. before)

  used_there : (n i : ℕ) → i < n → 0 < get_or uses i 0 → Contains (used_among uses n) (used_at uses i)
  used_there zero i below some = absurd (omega arith)
  used_there (suc n) i below some =
      elim (cases_eq i n) [
        | inl same ↦
            let some' : 0 < get_or uses n 0 = rw same at some in
            rw (same, cond-true (ltb 0 (get_or uses n 0)) (used_among uses n ++ used_at uses n ∷ []) (used_among uses n) (lt-ltb 0 (get_or uses n 0) some'))
            (Contains-push (used_among uses n) (used_at uses n))
        | inr other ↦
            let before = used_there n i (let o : i ≢ n = other in omega arith) some in
            cond_both (ltb 0 (get_or uses n 0)) (used_among uses n ++ used_at uses n ∷ []) (used_among uses n) (λ zs. Contains zs (used_at uses i))
            (λ _. Contains-append_left (used_among uses n) (used_at uses n ∷ []) (used_at uses i) before)
            (λ _. before)
      ]

  used_length : (n : ℕ) → n ≤ length uses → length (used_among uses n) ≡ used_count (take n uses)
  used_length zero within = refl
  used_length (suc n) within =
      let before = used_length n (omega arith) in
      let push = sum_by_more (λ u. cond (ltb 0 u) 1 0) uses n 0 (omega arith) in
      let same : n + 1 ≡ suc n = omega arith in
      let push' : used_count (take (suc n) uses) ≡ used_count (take n uses) + cond (ltb 0 (get_or uses n 0)) 1 0 = subst (λ (m : ℕ). used_count (take m uses) ≡ used_count (take n uses) + cond (ltb 0 (get_or uses n 0)) 1 0) same push in
      cond_both (ltb 0 (get_or uses n 0)) (used_among uses n ++ used_at uses n ∷ []) (used_among uses n) (λ zs. length zs ≡ used_count (take (suc n) uses))
      (λ test. omega (arith, length_push (used_among uses n) (used_at uses n), before, push', cond-true {A = ℕ} (ltb 0 (get_or uses n 0)) 1 0 test))
      (λ test. omega (arith, before, push', cond-false {A = ℕ} (ltb 0 (get_or uses n 0)) 1 0 test))

-- an element of places that stand once
apart : (xs : List Used) → ((p : ℕ) → count_by (is_at p) xs ≤ 1) → (k l : ℕ) → k < l → l < length xs → place_at xs k ≢ place_at xs l
apart xs once k l below inside same =
    let p : ℕ = place_at xs l in
    let f : Used → ℕ = λ e. cond (is_at p e) 1 0 in
    let first : f (get_or xs k no_use) ≡ 1 = cond-true {A = ℕ} (eqb (place_at xs k) p) 1 0 (eq-eqb (place_at xs k) p same) in
    let second : f (get_or xs l no_use) ≡ 1 = cond-true {A = ℕ} (eqb p p) 1 0 (eq-eqb p p refl) in
    let front : f (get_or (take l xs) k no_use) ≤ sum_by f (take l xs) = get_or-le-sum_by f (take l xs) k no_use (omega (arith, length-take-le l xs (omega arith))) in
    let front' : f (get_or xs k no_use) ≤ sum_by f (take l xs) = rw (get_or-take l xs k no_use below) at front in
    omega (arith, once p, sum_by-take-le f xs (l + 1), sum_by_more f xs l no_use inside, front', first, second)

-- ---- in the order of a sort

abbrev pub cmp_used : Used → Used → Ordering
cmp_used x y = ordering_then (nat_cmp y.0.0 x.0.0) (nat_cmp x.1 y.1)

-- the k-th has more uses than the l-th, or as many and no later place
abbrev pub Leads : List Used → ℕ → ℕ → Type 0
Leads order k l = (count_at order l < count_at order k) ⊎ ((count_at order k ≡ count_at order l) × (place_at order k ≤ place_at order l))

not_less : (a b p q : ℕ) → is_lt (ordering_then (nat_cmp a b) (nat_cmp q p)) ≡ false → (b < a) ⊎ ((a ≡ b) × (p ≤ q))
not_less a b p q test =
    elim (cases_lt b a) [
      | inl more ↦ inl more
      | inr rest ↦ inr (grind (arith, nat_tests), grind (arith, nat_tests))
    ]

leads_trans : (order : List Used) (k l m : ℕ) → Leads order k l → Leads order l m → Leads order k m
leads_trans order k l m (inl a) (inl b) = inl (omega (arith, a, b))
leads_trans order k l m (inl a) (inr b) = inl (omega (arith, a, b.0))
leads_trans order k l m (inr a) (inl b) = inl (omega (arith, a.0, b))
leads_trans order k l m (inr a) (inr b) = inr (omega (arith, a.0, b.0), omega (arith, a.1, b.1))

module _ (order : List Used) (sorted : IsSorted cmp_used order) where
  leads_next : (k : ℕ) → suc k < length order → Leads order k (suc k)
  leads_next k inside =
      let same : k + 1 ≡ suc k = omega arith in
      let test = rw same at (sorted k no_use (omega arith) (omega arith)) in
      not_less (count_at order k) (count_at order (suc k)) (place_at order k) (place_at order (suc k)) test

  pub leads : (k l : ℕ) → k ≤ l → l < length order → Leads order k l
  leads zero zero up inside = inr (refl, omega arith)
  leads (suc k) zero up inside = absurd (omega arith)
  leads k (suc l) up inside =
      elim (cases_lt k (suc l)) [
        | inl before ↦ leads_trans order k l (suc l) (leads k l (omega arith) (omega arith)) (leads_next l inside)
        | inr same ↦ let e : k ≡ suc l = omega arith in rw e (inr (refl, omega arith))
      ]

-- the used declarations in another order
module _ (uses : List ℕ) (order : List Used) (moved : IsPermutation (used_among uses (length uses)) order) where
  pub entry : (k : ℕ) → k < length order → IsEntry uses (length uses) (get_or order k no_use)
  entry k inside =
      All-get_or (IsEntry uses (length uses)) order k no_use inside (All-permutation (IsEntry uses (length uses)) (used_among uses (length uses)) order moved (used_entries uses (length uses)))

  pub places : ArePlaces order (length uses)
  places = record {
    inside = λ k l. (entry k l).below;
    apart = apart order (λ p. omega (arith, used_once uses (length uses) p, sum_by-IsPermutation (λ e. cond (is_at p e) 1 0) (used_among uses (length uses)) order moved));
  }

  pub count_used : length order ≡ used_count uses
  count_used =
      length_permutation (used_among uses (length uses)) order moved ∙ used_length uses (length uses) (omega arith) ∙ ap used_count (take_all (length uses) uses (omega arith))

  pub few_used : length order ≤ length uses
  few_used = omega (arith, count_used, count_by-le-length (λ n. ltb 0 n) uses)

  -- where a used declaration stands
  pub seat : (i : ℕ) → IsUsed uses i → (k : ℕ) × (k < length order) × (place_at order k ≡ i)
  seat i used =
      let there = Contains-permutation (used_among uses (length uses)) order (used_at uses i) moved (used_there uses (length uses) i used.inside used.some) in
      let same = get_or_default order there.0 no_use (used_at uses i) there.1 ∙ there.2 in
      (there.0, there.1, ap (λ e. e.1) same)

  -- what stands at a place is used
  pub used_place : (k : ℕ) → k < length order → IsUsed uses (place_at order k)
  used_place k inside =
      let here = entry k inside in
      record { inside = here.below; some = omega (arith, here.count, here.some) }
