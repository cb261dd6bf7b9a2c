-- What is found by its place.
use Rattle.std.proofs.Common.{◌≡◌, ◌≢◌, ◌≤◌, ◌<◌, ◌+◌, ◌-◌, ℕ, List, length, drop, get_or, sym, ap, subst, ◌∙◌, arith, inl, inr, Less, Equal, Greater}
use Rattle.std.specs.Prelude.{Option, Some, None, ◌↔◌, ltb, true, false, slice_range}
use Rattle.std.specs.Ordering.{nat_cmp, ordering_index}
use Rattle.std.specs.List.{Contains, HoldsAt}
use Rattle.std.specs.List.Sorted.{IsNonDecreasing, IsNonDecreasingBy, IsPartitionPoint}
use Rattle.std.proofs.lemmas.Cmp.{ranked}
use Rattle.std.proofs.lemmas.List.{length-take, length-drop, get_or-take, get_or-drop}
use Rattle.std.proofs.lemmas.List.Sorted.{IsNonDecreasingBy-from_default}
use Rattle.std.proofs.lemmas.Bool.{cases_lt, ltb-true, ltb-false}
use Rattle.std.proofs.lemmas.Grind.{get_or_default_zero}
use Rattle.std.proofs.lemmas.Bool.Decides.{nat_tests}
use Rattle.entry_arena.specs.declared.entry.Target.{Target}
use Rattle.entry_arena.specs.declared.entry.Target.TheVariants.{Entry as TheEntry, ChainEnd as TheEnd}
use Rattle.entry_arena.specs.Arena.{Arena, chain_end_at, IsChainEndAt}
use Rattle.entry_arena.specs.Order.{IsInOrder}

module _ {X : Type 0} (key : X → ℕ) (xs : List X) (d : X) (rising : (i j : ℕ) → i < j → j < length xs → key (get_or xs i d) < key (get_or xs j d)) (k : ℕ) where
  comparisons_rise : IsNonDecreasingBy (λ x. ordering_index (nat_cmp (key x) k)) xs
  comparisons_rise = IsNonDecreasingBy-from_default (λ x. ordering_index (nat_cmp (key x) k)) xs d (λ i j le inside.
      let keys : key (get_or xs i d) ≤ key (get_or xs j d) = grind (arith, rising i j, λ (same : i ≡ j). ap (λ n. key (get_or xs n d)) same) in
      grind (arith, nat_tests))

  -- a search ends at a place of the key
  pub found : (i : ℕ) → HoldsAt (λ x. nat_cmp (key x) k ≡ Equal) xs i → key (get_or xs i d) ≡ k
  found i equal = ranked _ k _ (sym (equal d))

  -- or nothing has the key
  pub not_found : (at : ℕ) → (IsNonDecreasingBy (λ x. ordering_index (nat_cmp (key x) k)) xs → IsPartitionPoint (λ x. nat_cmp (key x) k ≡ Less) (λ x. nat_cmp (key x) k ≡ Greater) xs at) → (i : ℕ) → i < length xs → key (get_or xs i d) ≢ k
  not_found at parted i inside same =
      elim (cases_lt i at) [
        | inl l ↦
            let less : key (get_or xs i d) < k = ranked _ k _ (sym ((parted comparisons_rise).0 i d (omega arith) l)) in
            omega arith
        | inr g ↦
            let more : k < key (get_or xs i d) = ranked _ k _ (sym ((parted comparisons_rise).1 i d g inside)) in
            omega arith
      ]

-- the same of a part of the list
module _ {X : Type 0} (key : X → ℕ) (xs : List X) (d : X) (rising : (i j : ℕ) → i < j → j < length xs → key (get_or xs i d) < key (get_or xs j d)) (k from to : ℕ) (order : from ≤ to) (within : to ≤ length xs) where
  part_length : length (slice_range xs from to) ≡ to - from
  part_length = omega (arith, length-take (to - from) (drop from xs), length-drop from xs)

  part_at : (i : ℕ) → i < to - from → get_or (slice_range xs from to) i d ≡ get_or xs (from + i) d
  part_at i inside = get_or-take (to - from) (drop from xs) i d inside ∙ get_or-drop from xs i d

  part_rises : (i j : ℕ) → i < j → j < length (slice_range xs from to) → key (get_or (slice_range xs from to) i d) < key (get_or (slice_range xs from to) j d)
  part_rises i j less inside =
      let count : length (slice_range xs from to) ≡ to - from = part_length in
      rw (part_at i (omega arith), part_at j (omega arith)) (rising (from + i) (from + j) (omega arith) (omega arith))

  pub found_among : (i : ℕ) → i < length (slice_range xs from to) → HoldsAt (λ x. nat_cmp (key x) k ≡ Equal) (slice_range xs from to) i → (from + i < length xs) × (key (get_or xs (from + i) d) ≡ k)
  found_among i inside equal =
      let count : length (slice_range xs from to) ≡ to - from = part_length in
      (omega arith, ap key (sym (part_at i (omega arith))) ∙ found key (slice_range xs from to) d part_rises k i equal)

  pub not_among : (at : ℕ) → (IsNonDecreasingBy (λ x. ordering_index (nat_cmp (key x) k)) (slice_range xs from to) → IsPartitionPoint (λ x. nat_cmp (key x) k ≡ Less) (λ x. nat_cmp (key x) k ≡ Greater) (slice_range xs from to) at) → (i : ℕ) → from ≤ i → i < to → key (get_or xs i d) ≢ k
  not_among at parted i low high same =
      let count : length (slice_range xs from to) ≡ to - from = part_length in
      let here : get_or (slice_range xs from to) (i - from) d ≡ get_or xs (from + (i - from)) d = part_at (i - from) (omega arith) in
      let place : from + (i - from) ≡ i = omega arith in
      not_found key (slice_range xs from to) d part_rises k at parted (i - from) (omega arith) (ap key here ∙ ap (λ n. key (get_or xs n d)) place ∙ same)

-- the number in an answer, and 0 where there is none
number_of : Option Target → ℕ
number_of None = 0
number_of (Some (TheEntry id)) = id
number_of (Some (TheEnd id)) = id

same_end : (a b : ℕ) → Some (TheEnd a) ≡ Some (TheEnd b) → a ≡ b
unfolding number_of
same_end a b e = ap number_of e

module _ (f : Arena) (order : IsInOrder f) where
  -- a place has one end of a chain
  one_end : (a b place : ℕ) → IsChainEndAt f a place → IsChainEndAt f b place → a ≡ b
  one_end a b place (i, li, ei) (j, lj, ej) =
      let at_i : (chain_end_at f.ends i).at ≡ place = ap (λ z. z.at) ei in
      let at_j : (chain_end_at f.ends j).at ≡ place = ap (λ z. z.at) ej in
      let same : i ≡ j = grind (arith, order.ended.rising i j, order.ended.rising j i) in
      sym (ap (λ z. z.entry) ei) ∙ ap (λ n. (chain_end_at f.ends n).entry) same ∙ ap (λ z. z.entry) ej

  -- the answer names the entry of the one that stands there
  pub end_target : (id place : ℕ) → IsChainEndAt f id place → (other : ℕ) → (Some (TheEnd id) ≡ Some (TheEnd other)) ↔ IsChainEndAt f other place
  end_target id place here other = (λ e. subst (λ n. IsChainEndAt f n place) (same_end id other e) here, λ there. ap (λ n. Some (TheEnd n)) (one_end id other place here there))

-- NUMBERS THAT RISE

module _ (xs : List ℕ) (rising : (i j : ℕ) → i < j → j < length xs → get_or xs i 0 < get_or xs j 0) where
  pub never_falls : IsNonDecreasing xs
  never_falls =
      IsNonDecreasingBy-from_default (λ (x : ℕ). x) xs 0 (λ i j le inside. elim (cases_lt i j) [
        | inl less ↦ let h : get_or xs i 0 < get_or xs j 0 = rising i j less inside in omega arith
        | inr more ↦ let same : i ≡ j = omega arith in let h : get_or xs i 0 ≡ get_or xs j 0 = ap (λ k. get_or xs k 0) same in omega arith
      ])

  -- the first number that isn't below one of them is that one
  pub place_found : (x n : ℕ) → Contains xs x → IsPartitionPoint (λ y. ltb y x ≡ true) (λ y. ltb y x ≡ false) xs n → (n < length xs) × (get_or xs n 0 ≡ x)
  place_found x n (k, inside, is) (below, above) =
      let here : get_or xs k 0 ≡ x = sym (get_or_default_zero xs k x inside) ∙ is in
      elim (cases_lt k n) [
        | inl less ↦ let low : get_or xs k 0 < x = ltb-true (get_or xs k 0) x (below k 0 (omega arith) less) in absurd (omega arith)
        | inr more ↦ elim (cases_lt n k) [
          | inl less ↦
              let high : x ≤ get_or xs n 0 = ltb-false (get_or xs n 0) x (above n 0 (omega arith) (omega arith)) in
              let rise : get_or xs n 0 < get_or xs k 0 = rising n k less inside in
              absurd (omega arith)
          | inr rest ↦ let same : n ≡ k = omega arith in (omega arith, ap (λ z. get_or xs z 0) same ∙ here)
        ]
      ]
