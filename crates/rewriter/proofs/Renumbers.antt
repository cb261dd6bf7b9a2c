-- The used declarations by rising new number, where these are the numbers from 1 on: the one with the number k + 1 is at k.
use Rattle.std.proofs.Common.{◌≡◌, ◌≢◌, ◌≤◌, ◌<◌, ◌+◌, ◌-◌, inl, inr, ℕ, zero, suc, Bool, false, cond, ltb, eqb, List, [], ◌∷◌, ◌++◌, length, get_or, take, ap, ◌∙◌, sym, refl, subst, arith, ◌↔◌}
use Rattle.std.specs.List.{count_by, sum_by, All, Contains}
use Rattle.std.proofs.lemmas.Bool.{cond_both, ltb-true, lt-ltb, ne_eqb, eq-eqb, cond-true, cond-false, cases_eq, cases_lt}
use Rattle.std.proofs.lemmas.List.{get_or-take, length_push, get_or_default, length-take-le, take_all}
use Rattle.std.proofs.lemmas.List.Sums.{sum_by_push, sum_by_more, sum_by-take-le, get_or-le-sum_by}
use Rattle.std.proofs.lemmas.List.Elements.{All-nil, All-push, All-weaker, All-get_or, Contains-append_left, Contains-push}
use Rattle.std.proofs.lemmas.List.Sorted.{sum_by-IsPermutation, All-permutation, Contains-permutation, length_permutation}
use Rattle.leb_codec.specs.Numbering.{IsUsed, AreFirstNumbers, used_count}
use Rattle.abbrev_tables.specs.Written.{used_among, used_at, IsInOrder}

-- a used declaration: its new number and its place
abbrev Used : Type 0
Used = ℕ × ℕ

abbrev is_at : ℕ → Used → Bool
is_at p e = eqb e.1 p

-- among the first n
pub record IsEntry (numbers : List ℕ) (n : ℕ) (e : Used) : Type 0 where
  pub below : e.1 < n
  pub number : e.0 ≡ get_or numbers e.1 0
  pub some : 0 < e.0

module _ (numbers : List ℕ) where
  used_later : (n p : ℕ) → n ≤ p → count_by (is_at p) (used_among numbers n) ≡ 0
  used_later zero p above = refl
  used_later (suc n) p above =
      let before = used_later n p (omega arith) in
      cond_both (ltb 0 (get_or numbers n 0)) (used_among numbers n ++ (get_or numbers n 0, n) ∷ []) (used_among numbers n) (λ zs. count_by (is_at p) zs ≡ 0)
      (λ _. let push = sum_by_push (λ e. cond (is_at p e) 1 0) (used_among numbers n) (get_or numbers n 0, n) in
      let none = cond-false {A = ℕ} (eqb n p) 1 0 (ne_eqb n p (λ e. absurd (omega arith))) in
      omega (arith, push, none, before))
      (λ _. before)

  used_once : (n p : ℕ) → count_by (is_at p) (used_among numbers n) ≤ 1
  used_once zero p = omega arith
  used_once (suc n) p =
      let before = used_once n p in
      let push = sum_by_push (λ e. cond (is_at p e) 1 0) (used_among numbers n) (get_or numbers n 0, n) in
      cond_both (ltb 0 (get_or numbers n 0)) (used_among numbers n ++ (get_or numbers n 0, n) ∷ []) (used_among numbers n) (λ zs. count_by (is_at p) zs ≤ 1)
      (λ _. elim (cases_eq n p) [
        | inl same ↦ omega (arith, push, used_later n p (omega arith), cond-true {A = ℕ} (eqb n p) 1 0 (eq-eqb n p same))
        | inr other ↦ omega (arith, push, before, cond-false {A = ℕ} (eqb n p) 1 0 (ne_eqb n p other))
      ])
      (λ _. before)

  entry_more : (n : ℕ) (e : Used) → IsEntry numbers n e → IsEntry numbers (suc n) e
  entry_more n e h = record { below = omega (arith, h.below); number = h.number; some = h.some }

  used_entries : (n : ℕ) → All (IsEntry numbers n) (used_among numbers n)
  used_entries zero = All-nil (IsEntry numbers zero)
  used_entries (suc n) =
      let before = All-weaker (IsEntry numbers n) (IsEntry numbers (suc n)) (entry_more n) (used_among numbers n) (used_entries n) in
      cond_both (ltb 0 (get_or numbers n 0)) (used_among numbers n ++ (get_or numbers n 0, n) ∷ []) (used_among numbers n) (All (IsEntry numbers (suc n)))
      (λ test. All-push (IsEntry numbers (suc n)) (used_among numbers n) (get_or numbers n 0, n) before (record { below = omega arith; number = refl; some = ltb-true 0 (get_or numbers n 0) test }))
      (λ _. before)

  used_there : (n i : ℕ) → i < n → 0 < get_or numbers i 0 → Contains (used_among numbers n) (get_or numbers i 0, i)
  used_there zero i below some = absurd (omega arith)
  used_there (suc n) i below some =
      elim (cases_eq i n) [
        | inl same ↦
            let some' : 0 < get_or numbers n 0 = rw same at some in
            rw (same, cond-true (ltb 0 (get_or numbers n 0)) (used_among numbers n ++ (get_or numbers n 0, n) ∷ []) (used_among numbers n) (lt-ltb 0 (get_or numbers n 0) some'))
            (Contains-push (used_among numbers n) (get_or numbers n 0, n))
        | inr other ↦
            let before = used_there n i (let o : i ≢ n = other in omega arith) some in
            cond_both (ltb 0 (get_or numbers n 0)) (used_among numbers n ++ (get_or numbers n 0, n) ∷ []) (used_among numbers n) (λ zs. Contains zs (get_or numbers i 0, i))
            (λ _. Contains-append_left (used_among numbers n) ((get_or numbers n 0, n) ∷ []) (get_or numbers i 0, i) before)
            (λ _. before)
      ]

  -- as many are listed as have uses
  used_length : (uses : List ℕ) (n : ℕ) → n ≤ length uses → ((i : ℕ) → i < length uses → (get_or numbers i 0 ≡ 0) ↔ (get_or uses i 0 ≡ 0)) → length (used_among numbers n) ≡ used_count (take n uses)
  used_length uses zero within unused = refl
  used_length uses (suc n) within unused =
      let before = used_length uses n (omega arith) unused in
      let push = sum_by_more (λ u. cond (ltb 0 u) 1 0) uses n 0 (omega arith) in
      let same : n + 1 ≡ suc n = omega arith in
      let push' : used_count (take (suc n) uses) ≡ used_count (take n uses) + cond (ltb 0 (get_or uses n 0)) 1 0 = subst (λ (m : ℕ). used_count (take m uses) ≡ used_count (take n uses) + cond (ltb 0 (get_or uses n 0)) 1 0) same push in
      let both = unused n (omega arith) in
      cond_both (ltb 0 (get_or numbers n 0)) (used_among numbers n ++ (get_or numbers n 0, n) ∷ []) (used_among numbers n) (λ zs. length zs ≡ used_count (take (suc n) uses))
      (λ test. elim (cases_lt 0 (get_or uses n 0)) [
        | inl some ↦ omega (arith, length_push (used_among numbers n) (get_or numbers n 0, n), before, push', cond-true {A = ℕ} (ltb 0 (get_or uses n 0)) 1 0 (lt-ltb 0 (get_or uses n 0) some))
        | inr none ↦ absurd (omega (arith, both.1 (omega arith), ltb-true 0 (get_or numbers n 0) test))
      ])
      (λ test. elim (cases_lt 0 (get_or uses n 0)) [
        | inl some ↦ absurd (omega (arith, not_above n test both, some))
        | inr none ↦ omega (arith, before, push', none_of (get_or uses n 0) none)
      ])
    where
      none_of : (x : ℕ) → x ≤ 0 → cond {A = ℕ} (ltb 0 x) 1 0 ≡ 0
      none_of zero small = refl
      none_of (suc x) small = absurd (omega arith)

      not_above : (n : ℕ) → ltb 0 (get_or numbers n 0) ≡ false → ((get_or numbers n 0 ≡ 0) ↔ (get_or uses n 0 ≡ 0)) → get_or uses n 0 ≡ 0
      not_above n test both = both.0 (elim (cases_lt 0 (get_or numbers n 0)) [ inl some ↦ absurd (grind (arith, lt-ltb 0 (get_or numbers n 0) some, test)) | inr none ↦ omega arith ])

-- an element of places that stand once
apart : (xs : List Used) → ((p : ℕ) → count_by (is_at p) xs ≤ 1) → (k l : ℕ) → k < l → l < length xs → (used_at xs k).1 ≢ (used_at xs l).1
apart xs once k l below inside same =
    let p : ℕ = (used_at xs l).1 in
    let f : Used → ℕ = λ e. cond (is_at p e) 1 0 in
    let first : f (get_or xs k (0, 0)) ≡ 1 = cond-true {A = ℕ} (eqb ((used_at xs k).1) p) 1 0 (eq-eqb ((used_at xs k).1) p same) in
    let second : f (get_or xs l (0, 0)) ≡ 1 = cond-true {A = ℕ} (eqb p p) 1 0 (eq-eqb p p refl) in
    let front : f (get_or (take l xs) k (0, 0)) ≤ sum_by f (take l xs) = get_or-le-sum_by f (take l xs) k (0, 0) (omega (arith, length-take-le l xs (omega arith))) in
    let front' : f (get_or xs k (0, 0)) ≤ sum_by f (take l xs) = rw (get_or-take l xs k (0, 0) below) at front in
    omega (arith, once p, sum_by-take-le f xs (l + 1), sum_by_more f xs l (0, 0) inside, front', first, second)

-- the numbers of the declarations that have uses are those from 1 on
pub record AreNumbersOf (uses numbers : List ℕ) : Type 0 where
  pub same_length : length numbers ≡ length uses
  pub unused : (i : ℕ) → i < length uses → (get_or numbers i 0 ≡ 0) ↔ (get_or uses i 0 ≡ 0)
  pub one_to_one : (i j : ℕ) → IsUsed uses i → IsUsed uses j → get_or numbers i 0 ≡ get_or numbers j 0 → i ≡ j
  pub first : AreFirstNumbers uses numbers

module _ (uses numbers : List ℕ) (are : AreNumbersOf uses numbers) (order : List Used) (ordered : IsInOrder numbers order) where
  pub entry : (k : ℕ) → k < length order → IsEntry numbers (length numbers) (used_at order k)
  entry k inside =
      All-get_or (IsEntry numbers (length numbers)) order k (0, 0) inside (All-permutation (IsEntry numbers (length numbers)) (used_among numbers (length numbers)) order ordered.used (used_entries numbers (length numbers)))

  is_used : (k : ℕ) → k < length order → IsUsed uses ((used_at order k).1)
  is_used k inside =
      let here = entry k inside in
      let p : ℕ = (used_at order k).1 in
      let below : p < length uses = omega (arith, here.below, are.same_length) in
      record {
        inside = below;
        some = elim (cases_lt 0 (get_or uses p 0)) [
          | inl some ↦ some
          | inr none ↦ absurd (omega (arith, (are.unused p below).1 (omega arith), here.number, here.some))
        ];
      }

  pub count_used : length order ≡ used_count uses
  count_used =
      let n : ℕ = length uses in
      let listed : length (used_among numbers n) ≡ used_count (take n uses) = used_length numbers uses n (omega arith) are.unused in
      let listed' : length (used_among numbers (length numbers)) ≡ used_count (take n uses) = subst (λ (m : ℕ). length (used_among numbers m) ≡ used_count (take n uses)) (sym are.same_length) listed in
      length_permutation (used_among numbers (length numbers)) order ordered.used ∙ listed' ∙ ap used_count (take_all n uses (omega arith))

  -- the numbers rise, and no number stands twice
  rises : (k l : ℕ) → k < l → l < length order → (used_at order k).0 < (used_at order l).0
  rises k l below inside =
      let up = ordered.rising k l (omega arith) inside in
      let one = entry k (omega arith) in
      let two = entry l inside in
      let once : (p : ℕ) → count_by (is_at p) order ≤ 1 = λ p. omega (arith, used_once numbers (length numbers) p, sum_by-IsPermutation (λ e. cond (is_at p e) 1 0) (used_among numbers (length numbers)) order ordered.used) in
      elim (cases_lt ((used_at order k).0) ((used_at order l).0)) [
        | inl less ↦ less
        | inr more ↦
            let same : get_or numbers ((used_at order k).1) 0 ≡ get_or numbers ((used_at order l).1) 0 = omega (arith, one.number, two.number, up, more) in
            absurd (apart order once k l below inside (are.one_to_one ((used_at order k).1) ((used_at order l).1) (is_used k (omega arith)) (is_used l inside) same))
      ]

  at_least : (k : ℕ) → k < length order → k + 1 ≤ (used_at order k).0
  at_least zero inside = omega (arith, (entry zero inside).some)
  at_least (suc k) inside = omega (arith, at_least k (omega arith), rises k (suc k) (omega arith) inside)

  at_most : (rest k : ℕ) → k + rest + 1 ≡ length order → (used_at order k).0 + rest ≤ used_count uses
  at_most zero k end =
      let inside : k < length order = omega arith in
      let here = entry k inside in
      let within = (are.first ((used_at order k).0)).1 ((used_at order k).1, is_used k inside, sym here.number) in
      omega (arith, within.1)
  at_most (suc rest) k end =
      let next : suc k + rest + 1 ≡ length order = omega (arith, end) in
      omega (arith, at_most rest (suc k) next, rises k (suc k) (omega arith) (omega (arith, end)))

  -- the declaration with the new number k + 1 is at k
  pub number_at : (k : ℕ) → k < length order → (used_at order k).0 ≡ k + 1
  number_at k inside =
      let rest : ℕ = length order - (k + 1) in
      omega (arith, at_least k inside, at_most rest k (omega arith), count_used)

  -- where a used declaration stands
  pub record IsSeated (number : ℕ) : Type 0 where
    pub k : ℕ
    pub inside : k < length order
    pub here : used_at order k ≡ (get_or numbers number 0, number)
    pub next : get_or numbers number 0 ≡ k + 1

  pub seat : (number : ℕ) → number < length numbers → get_or numbers number 0 ≢ 0 → IsSeated number
  seat number below some =
      let s : 0 < get_or numbers number 0 = (let o : get_or numbers number 0 ≢ 0 = some in omega arith) in
      let there = Contains-permutation (used_among numbers (length numbers)) order (get_or numbers number 0, number) ordered.used (used_there numbers (length numbers) number below s) in
      let same : used_at order there.0 ≡ (get_or numbers number 0, number) = get_or_default order there.0 (0, 0) (get_or numbers number 0, number) there.1 ∙ there.2 in
      record {
        k = there.0;
        inside = there.1;
        here = same;
        next = sym (ap (λ (e : Used). e.0) same) ∙ number_at there.0 there.1;
      }
