-- What the numbers in the order of falling uses and then of place are.
use Rattle.std.proofs.Common.{◌≡◌, ◌≤◌, ◌<◌, ◌+◌, ◌-◌, ◌^◌, ◌↔◌, inl, inr, ℕ, List, length, get_or, sym, ap, ◌∙◌, subst, arith}
use Rattle.std.specs.List.Sorted.{IsPermutation, IsSorted}
use Rattle.std.proofs.lemmas.Bool.{cases_lt}
use Rattle.leb_codec.specs.Leb.{least_unsigned_len}
use Rattle.leb_codec.specs.Numbering.{IsUsed, IsLeastNumbering, ComesBefore, RiseByFallingUses, AreFirstNumbers, used_count}
use Rattle.abbrev_numbering.specs.inside.Order.{Used, used_among, place_at, AreNumbered}
use Rattle.abbrev_numbering.proofs.Orders.{count_at, Leads, leads, used_place, entry, seat, count_used, few_used, cmp_used}
use Rattle.abbrev_numbering.proofs.Sizes.{size_least}

module _ (uses : List ℕ) (order : List Used) (moved : IsPermutation (used_among uses (length uses)) order) (sorted : IsSorted cmp_used order) (numbers : List ℕ) (are : AreNumbered order (length uses) numbers) where
  -- where a used declaration stands, and its number and uses there
  pub record Seat (i : ℕ) : Type 0 where
    pub k : ℕ
    pub inside : k < length order
    pub place : place_at order k ≡ i
    pub number : get_or numbers i 0 ≡ k + 1
    pub count : count_at order k ≡ get_or uses i 0

  seated : (i : ℕ) → IsUsed uses i → Seat i
  seated i used =
      let (k, inside, place) = seat uses order moved i used in
      record {
        k = k;
        inside = inside;
        place = place;
        number = subst (λ (p : ℕ). get_or numbers p 0 ≡ k + 1) place (are.each k inside);
        count = subst (λ (p : ℕ). count_at order k ≡ get_or uses p 0) place (entry uses order moved k inside).count;
      }

  pub unused_alone : (i : ℕ) → i < length uses → (get_or numbers i 0 ≡ 0) ↔ (get_or uses i 0 ≡ 0)
  unused_alone i inside = (there, back)
    where
      there : get_or numbers i 0 ≡ 0 → get_or uses i 0 ≡ 0
      there none =
          elim (cases_lt 0 (get_or uses i 0)) [
            | inl some ↦ let s = seated i (record { inside = inside; some = some }) in absurd (omega (arith, s.number, none))
            | inr not ↦ omega arith
          ]

      back : get_or uses i 0 ≡ 0 → get_or numbers i 0 ≡ 0
      back none =
          elim (are.others i inside) [
            | inl zero_there ↦ zero_there
            | inr (k, within, place) ↦
                let some = (used_place uses order moved k within).some in
                absurd (omega (arith, subst (λ (p : ℕ). 0 < get_or uses p 0) place some, none))
          ]

  pub one_to_one : (i j : ℕ) → IsUsed uses i → IsUsed uses j → get_or numbers i 0 ≡ get_or numbers j 0 → i ≡ j
  one_to_one i j one two same =
      let s = seated i one in
      let t = seated j two in
      let e : s.k ≡ t.k = omega (arith, s.number, t.number, same) in
      sym s.place ∙ ap (λ k. place_at order k) e ∙ t.place

  pub in_order : RiseByFallingUses uses numbers
  in_order i j one two before =
      let s = seated i one in
      let t = seated j two in
      elim (cases_lt s.k t.k) [
        | inl less ↦ omega (arith, s.number, t.number, less)
        | inr more ↦ absurd (clash s t (leads order sorted t.k s.k more s.inside) before)
      ]
    where
      clash : (s : Seat i) (t : Seat j) → Leads order t.k s.k → ComesBefore uses i j → ⊥
      clash s t (inl a) (inl b) = absurd (omega (arith, s.count, t.count, a, b))
      clash s t (inl a) (inr b) = absurd (omega (arith, s.count, t.count, a, b.0))
      clash s t (inr a) (inl b) = absurd (omega (arith, s.count, t.count, a.0, b))
      clash s t (inr a) (inr b) = absurd (omega (arith, s.place, t.place, a.1, b.1))

  pub first_numbers : AreFirstNumbers uses numbers
  first_numbers number = (there, back)
    where
      there : (1 ≤ number) × (number ≤ used_count uses) → (i : ℕ) × IsUsed uses i × (get_or numbers i 0 ≡ number)
      there (some, few) =
          let inside : number - 1 < length order = omega (arith, count_used uses order moved, some, few) in
          (place_at order (number - 1), used_place uses order moved (number - 1) inside, omega (arith, are.each (number - 1) inside))

      back : (i : ℕ) × IsUsed uses i × (get_or numbers i 0 ≡ number) → (1 ≤ number) × (number ≤ used_count uses)
      back (i, used, same) =
          let s = seated i used in
          (omega (arith, s.number, same), omega (arith, s.number, s.inside, same, count_used uses order moved))

  pub least_numbering : (length uses < 2 ^ 32) → ((v w : ℕ) → v ≤ w → least_unsigned_len v ≤ least_unsigned_len w) → IsLeastNumbering uses numbers
  least_numbering few rises = record {
    member = record {
      same_length = are.same_length;
      unused = λ i inside none. (unused_alone i inside).1 none;
      positive = λ i used. omega (arith, (seated i used).number);
      narrow = λ i used. omega (arith, (seated i used).number, (seated i used).inside, few_used uses order moved);
      one_to_one = one_to_one;
    };
    least = λ other member. size_least uses order moved rises (leads order sorted) numbers other are.same_length are.each member;
  }

-- a sort of the used declarations, as a caller of the sort sees it
pub moved_by_sort : (uses seen : List ℕ) (before after order : List Used) → seen ≡ uses → before ≡ used_among seen (length seen) → IsPermutation before after → order ≡ after → IsPermutation (used_among uses (length uses)) order
moved_by_sort uses seen before after order is_seen is_before permutation is_order =
    let P : List ℕ → Type 0 = λ us. IsPermutation (used_among us (length us)) after in
    rw is_order (subst P is_seen (rw is_before at permutation))
