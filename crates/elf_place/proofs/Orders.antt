-- The order of movable sections.
use Rattle.std.proofs.Common.{◌≡◌, ◌≢◌, ◌≤◌, ◌<◌, ◌⊎◌, ℕ, zero, suc, List, true, false, eqb, ltb, length, get_or, map, refl, sym, ◌∙◌, ap, arith, inl, inr, Ordering}
use Rattle.std.specs.Prelude.{IsTrue}
use Rattle.std.specs.List.{All, AllPairs, Contains, IsDistinct}
use Rattle.std.specs.List.Sorted.{IsPermutation, IsSorted}
use Rattle.std.specs.Ordering.{nat_cmp, is_lt, ordering_then}
use Rattle.std.proofs.lemmas.Bool.{cases_lt, cases_eq, cases_Bool, eq-eqb, ne_eqb, eqb-false, lt-ltb, le-ltb, cases_order, true≢false}
use Rattle.std.proofs.lemmas.List.{length-map, get_or-map, append-nil, length-append}
use Rattle.std.proofs.lemmas.List.Elements.{All-push, Contains-push, Contains-append_left}
use Rattle.std.proofs.lemmas.List.Quantifiers.{all_pairs_push}
use Rattle.std.proofs.lemmas.List.Sorted.{All-permutation, Contains-permutation, IsPermutation-map, length_permutation, sorted_far, ranks_by}
use Rattle.std.proofs.lemmas.Map.Keys.{IsDistinct-IsPermutation, apart_from_distinct, IsDistinct-from_apart}
use Rattle.std.proofs.lemmas.Cmp.{nat_cmp_total, then_total, on_total}
use Rattle.elf_sections.specs.Elf.{section_count, is_movable, offset_of}
use Rattle.elf_place.specs.Layout.{IsBefore, IsMovingOrder}
use Rattle.elf_place.specs.inside.Spots.{movable_among}

-- no section stands before itself
pub before-apart : (file : List ℕ) (i j : ℕ) → IsBefore file i j → i ≢ j
before-apart file i j (inl less) = λ same. let offsets : offset_of file i ≡ offset_of file j = ap (offset_of file) same in absurd (omega arith)
before-apart file i j (inr (tie, less)) = λ same. absurd (omega arith)

-- a pair is that of a movable section among the first n
pub record IsPlaceOf (file : List ℕ) (n : ℕ) (place : ℕ × ℕ) : Type 0 where
  pub inside : place.1 < n
  pub moves : IsTrue (is_movable file place.1)
  pub offset : place.0 ≡ offset_of file place.1

movable_among-places : (file : List ℕ) (n : ℕ) → All (IsPlaceOf file n) (movable_among file n)
movable_among-places file zero = λ k d lt. absurd (omega arith)
movable_among-places file (suc n) =
    let before = movable_among-places file n in
    let wider : All (IsPlaceOf file (suc n)) (movable_among file n) = λ k d lt. let p = before k d lt in record { inside = omega (arith, p.inside); moves = p.moves; offset = p.offset } in
    elim (cases_Bool (is_movable file n)) [
      | inl moves ↦ rw moves (All-push (IsPlaceOf file (suc n)) (movable_among file n) (offset_of file n, n) wider (record { inside = omega arith; moves = moves; offset = refl }))
      | inr stays ↦ rw (stays, append-nil) wider
    ]

length-movable_among : (file : List ℕ) (n : ℕ) → length (movable_among file n) ≤ n
length-movable_among file zero = omega arith
length-movable_among file (suc n) =
    let before = length-movable_among file n in
    elim (cases_Bool (is_movable file n)) [
      | inl moves ↦ rw (moves, length-append) (omega arith)
      | inr stays ↦ rw (stays, append-nil) (omega arith)
    ]

movable_among-has : (file : List ℕ) (n i : ℕ) → i < n → IsTrue (is_movable file i) → Contains (movable_among file n) (offset_of file i, i)
movable_among-has file zero i lt moves = absurd (omega arith)
movable_among-has file (suc n) i lt moves =
    elim (cases_eq i n) [
      | inl same ↦
          let here : is_movable file n ≡ true = ap (is_movable file) (sym same) ∙ moves in
          rw (same, here) (Contains-push (movable_among file n) (offset_of file n, n))
      | inr other ↦ Contains-append_left (movable_among file n) _ (offset_of file i, i) (movable_among-has file n i (omega arith) moves)
    ]

movable_among-rising : (file : List ℕ) (n : ℕ) → AllPairs (λ (a b : ℕ × ℕ). a.1 < b.1) (movable_among file n)
movable_among-rising file zero = λ i j d less within. absurd (omega arith)
movable_among-rising file (suc n) =
    let before = movable_among-rising file n in
    elim (cases_Bool (is_movable file n)) [
      | inl moves ↦ rw moves (all_pairs_push (λ (a b : ℕ × ℕ). a.1 < b.1) (movable_among file n) (offset_of file n, n) before (λ k d lt. (movable_among-places file n k d lt).inside))
      | inr stays ↦ rw (stays, append-nil) before
    ]

abbrev number_in : ℕ × ℕ → ℕ
number_in place = place.1

-- the numbers of these sections are distinct
movable_among-distinct : (file : List ℕ) (n : ℕ) → IsDistinct eqb (map number_in (movable_among file n))
movable_among-distinct file n =
    let all = movable_among file n in
    let size : length (map number_in all) ≡ length all = length-map all number_in in
    IsDistinct-from_apart eqb (map number_in all) (λ i j d less within.
    let e : ℕ × ℕ = (0, 0) in
    let rising = movable_among-rising file n i j e less (omega arith) in
    rw (get_or-map number_in all i e d (omega arith), get_or-map number_in all j e d (omega arith)) (ne_eqb (get_or all i e).1 (get_or all j e).1 (λ same. omega arith)))

-- how pairs are compared: by their first numbers, then by their second ones
abbrev pub compare_pairs : ℕ × ℕ → ℕ × ℕ → Ordering
compare_pairs x y = ordering_then (nat_cmp x.0 y.0) (nat_cmp x.1 y.1)

not-less : (x y u v : ℕ) → is_lt (ordering_then (nat_cmp x y) (nat_cmp u v)) ≡ false → (y < x) ⊎ ((y ≡ x) × (v ≤ u))
not-less x y u v h =
    elim (cases_order x y) [
      | inl same ↦ elim (cases_lt u v) [
        | inl less ↦
            let first : ltb x y ≡ false = le-ltb x y (omega arith) in
            let equal : eqb x y ≡ true = eq-eqb x y same in
            let second : ltb u v ≡ true = lt-ltb u v less in
            let done = rw (first, equal, second) at h in
            absurd (true≢false done)
        | inr above ↦ inr (sym same, above)
      ]
      | inr (inl less) ↦
          let first : ltb x y ≡ true = lt-ltb x y less in
          let done = rw first at h in
          absurd (true≢false done)
      | inr (inr more) ↦ inl more
    ]

-- the sorted list of the movable sections gives their order
module _ (file : List ℕ) (order : List (ℕ × ℕ)) (all : IsPermutation (movable_among file (section_count file)) order) (sorted : IsSorted compare_pairs order) where
  pub places-in_order : All (IsPlaceOf file (section_count file)) order
  places-in_order = All-permutation (IsPlaceOf file (section_count file)) (movable_among file (section_count file)) order all (movable_among-places file (section_count file))

  pub length-in_order : length order ≤ section_count file
  length-in_order = omega (arith, length_permutation (movable_among file (section_count file)) order all, length-movable_among file (section_count file))

  flips : (x y : ℕ) → eqb x y ≡ eqb y x
  flips x y = elim (cases_eq x y) [
    | inl same ↦ rw (eq-eqb x y same, eq-eqb y x (sym same)) refl
    | inr other ↦ rw (ne_eqb x y other, ne_eqb y x (λ e. other (sym e))) refl
  ]

  numbers-distinct : IsDistinct eqb (map number_in order)
  numbers-distinct =
      IsDistinct-IsPermutation eqb flips (map number_in (movable_among file (section_count file))) (map number_in order)
      (IsPermutation-map number_in (movable_among file (section_count file)) order all) (movable_among-distinct file (section_count file))

  in_order : AllPairs (IsBefore file) (map number_in order)
  in_order = λ i j d less within.
      let e : ℕ × ℕ = (0, 0) in
      let size : length (map number_in order) ≡ length order = length-map order number_in in
      let first : get_or (map number_in order) i d ≡ (get_or order i e).1 = get_or-map number_in order i e d (omega arith) in
      let second : get_or (map number_in order) j d ≡ (get_or order j e).1 = get_or-map number_in order j e d (omega arith) in
      let apart : eqb (get_or (map number_in order) i d) (get_or (map number_in order) j d) ≡ false = apart_from_distinct eqb (map number_in order) i j d numbers-distinct less within in
      let differ : (get_or (map number_in order) i d) ≢ (get_or (map number_in order) j d) = eqb-false _ _ apart in
      let far : is_lt (compare_pairs (get_or order j e) (get_or order i e)) ≡ false =
      sorted_far (λ x y. is_lt (compare_pairs x y)) (ranks_by (then_total (on_total (λ (t : ℕ × ℕ). t.0) nat_cmp_total) (on_total (λ (t : ℕ × ℕ). t.1) nat_cmp_total)) (λ (t : ℕ × ℕ). t)) order sorted i j e (omega arith) (omega arith) in
      let of_i = places-in_order i e (omega arith) in
      let of_j = places-in_order j e (omega arith) in
      let low : IsBefore file (get_or order i e).1 (get_or order j e).1 = elim (not-less (get_or order j e).0 (get_or order i e).0 (get_or order j e).1 (get_or order i e).1 far) [
        | inl less ↦ inl (omega (arith, of_i.offset, of_j.offset))
        | inr (same, le) ↦ inr (sym of_i.offset ∙ same ∙ of_j.offset, omega (arith, λ (e : (get_or order i e).1 ≡ (get_or order j e).1). differ (first ∙ e ∙ sym second)))
      ] in
      rw (first, second) low

  is-member : (i : ℕ) → Contains (map number_in order) i → (i < section_count file) × IsTrue (is_movable file i)
  is-member i (k, lt, is) =
      let e : ℕ × ℕ = (0, 0) in
      let size : length (map number_in order) ≡ length order = length-map order number_in in
      let here : (get_or order k e).1 ≡ i = sym (get_or-map number_in order k e i (omega arith)) ∙ is in
      let place = places-in_order k e (omega arith) in
      (omega (arith, place.inside), ap (is_movable file) (sym here) ∙ place.moves)

  has-member : (i : ℕ) → (i < section_count file) × IsTrue (is_movable file i) → Contains (map number_in order) i
  has-member i (lt, moves) =
      let within = Contains-permutation (movable_among file (section_count file)) order (offset_of file i, i) all (movable_among-has file (section_count file) i lt moves) in
      let e : ℕ × ℕ = (offset_of file i, i) in
      let size : length (map number_in order) ≡ length order = length-map order number_in in
      let k = within.0 in
      (k, omega (arith, within.1), get_or-map number_in order k e i within.1 ∙ ap number_in within.2)

  pub IsMovingOrder-from_sort : IsMovingOrder file (map number_in order)
  IsMovingOrder-from_sort = record { movable = λ i. (is-member i, has-member i); sorted = in_order }
