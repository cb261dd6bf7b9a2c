-- Maps of address tables.
use Rattle.std.proofs.Common.{◌≡◌, ◌≤◌, ◌<◌, ◌+◌, ◌-◌, ◌*◌, ◌∙◌, ◌/◌, ◌⊎◌, ℕ, zero, suc, List, [], ◌∷◌, length, get_or, false, ltb, eqb, true, refl, sym, ap, subst, arith, inl, inr, Ordering}
use Rattle.std.specs.Prelude.{min, Option, Some, None}
use Rattle.std.specs.List.{All, Contains}
use Rattle.std.specs.List.Sorted.{IsPermutation, IsSorted}
use Rattle.std.specs.Ordering.{nat_cmp, is_lt, ordering_then}
use Rattle.std.proofs.lemmas.Bool.{cases_lt, cases_eq, eq-eqb, lt-ltb, le-ltb, cases_order, true≢false}
use Rattle.std.proofs.lemmas.Option.{same_Some}
use Rattle.std.proofs.lemmas.List.Elements.{All-push, Contains-push, Contains-append_left}
use Rattle.std.proofs.lemmas.List.Sorted.{All-permutation, Contains-permutation, sorted_far, ranks_by}
use Rattle.std.proofs.lemmas.Cmp.{nat_cmp_total, then_total, on_total}
use Rattle.list_model.specs.declared.context.Context.{Context}
use Rattle.list_model.specs.declared.tables.AddrTable.{AddrTable}
use Rattle.list_model.specs.Addresses.{address_of}
use Rattle.list_least.specs.declared.map.AddressMap.{AddressMap}
use Rattle.list_least.specs.Maps.{HasNoIndex, IsLeastIndex, IsInTable, pair_at, AreSorted, AreHalves, IsTree, IsMapOf}
use Rattle.list_least.specs.inside.Lookups.{addresses_among, IsLeastOf, IsOneOf, IsNarrowed}

pair_default : (pairs : List (ℕ × ℕ)) (k : ℕ) (x d : ℕ × ℕ) → k < length pairs → get_or pairs k x ≡ x → get_or pairs k d ≡ x
pair_default [] k x d lt e = absurd (omega arith)
pair_default (y ∷ pairs) zero x d lt e = e
pair_default (y ∷ pairs) (suc k) x d lt e = pair_default pairs k x d (omega arith) e

none_some : (t : AddrTable) → None ≡ Some t → ⊥
none_some t e = grind (arith, e)

least_one : (tree : List ℕ) (from to x y : ℕ) → IsOneOf tree from to x → IsOneOf tree from to y → IsOneOf tree from to (min x y)
least_one tree from to x y a b =
    elim (cases_lt x y) [
      | inl lt ↦ subst (λ (z : ℕ). IsOneOf tree from to z) (omega (arith, lt)) a
      | inr ge ↦ subst (λ (z : ℕ). IsOneOf tree from to z) (omega (arith, ge)) b
    ]

evens : (i : ℕ) → (2 * (i / 2) ≡ i) ⊎ (2 * (i / 2) + 1 ≡ i)
evens i =
    elim (cases_lt (2 * (i / 2)) i) [
      | inl lt ↦ inr (omega (arith, lt))
      | inr ge ↦ inl (omega (arith, ge))
    ]

-- a pair is that of one of the first indexes
abbrev pub IsPairOf : List ℕ → AddrTable → ℕ → ℕ × ℕ → Type 0
IsPairOf addr table n pair = (pair.1 < n) × (pair.0 ≡ address_of addr table pair.1)

pairs_among : (addr : List ℕ) (table : AddrTable) (n : ℕ) → All (IsPairOf addr table n) (addresses_among addr table n)
pairs_among addr table zero = λ k d lt. absurd (omega arith)
pairs_among addr table (suc n) =
    let before = pairs_among addr table n in
    let wider : All (IsPairOf addr table (suc n)) (addresses_among addr table n) = λ k d lt. let p = before k d lt in (omega (arith, p.0), p.1) in
    All-push (IsPairOf addr table (suc n)) (addresses_among addr table n) (address_of addr table n, n) wider (omega arith, refl)

among_has : (addr : List ℕ) (table : AddrTable) (n i : ℕ) → i < n → Contains (addresses_among addr table n) (address_of addr table i, i)
among_has addr table zero i lt = absurd (omega arith)
among_has addr table (suc n) i lt =
    elim (cases_eq i n) [
      | inl same ↦ rw same (Contains-push (addresses_among addr table n) (address_of addr table n, n))
      | inr other ↦ Contains-append_left (addresses_among addr table n) _ (address_of addr table i, i) (among_has addr table n i (omega arith))
    ]

abbrev pub compare_pairs : ℕ × ℕ → ℕ × ℕ → Ordering
compare_pairs x y = ordering_then (nat_cmp x.0 y.0) (nat_cmp x.1 y.1)

not-less : (x y u v : ℕ) → is_lt (ordering_then (nat_cmp x y) (nat_cmp u v)) ≡ false → (y < x) ⊎ ((y ≡ x) × (v ≤ u))
not-less x y u v h =
    elim (cases_order x y) [
      | inl same ↦ elim (cases_lt u v) [
        | inl less ↦
            let first : ltb x y ≡ false = le-ltb x y (omega arith) in
            let equal : eqb x y ≡ true = eq-eqb x y same in
            let second : ltb u v ≡ true = lt-ltb u v less in
            let done = rw (first, equal, second) at h in
            absurd (true≢false done)
        | inr above ↦ inr (sym same, above)
      ]
      | inr (inl less) ↦
          let first : ltb x y ≡ true = lt-ltb x y less in
          let done = rw first at h in
          absurd (true≢false done)
      | inr (inr more) ↦ inl more
    ]

pub sorted_pairs : (addr : List ℕ) (table : AddrTable) (pairs : List (ℕ × ℕ)) → IsPermutation (addresses_among addr table table.count) pairs → IsSorted compare_pairs pairs → AreSorted addr (Some table) pairs
sorted_pairs addr table pairs all sorted = record {
  has = λ i lt. let p = All-permutation (IsPairOf addr table table.count) (addresses_among addr table table.count) pairs all (pairs_among addr table table.count) i (0, 0) lt in (table, refl, p.0, p.1);
  all = λ index address (t, e, lt, is).
      let same : table ≡ t = same_Some table t e in
      let inside : index < table.count = subst (λ (z : AddrTable). index < z.count) (sym same) lt in
      let here : address ≡ address_of addr table index = subst (λ (z : AddrTable). address ≡ address_of addr z index) (sym same) is in
      let found = Contains-permutation (addresses_among addr table table.count) pairs (address_of addr table index, index) all (among_has addr table table.count index inside) in
      let k = found.0 in
      let at : get_or pairs k (0, 0) ≡ (address_of addr table index, index) = pair_default pairs k (address_of addr table index, index) (0, 0) found.1 found.2 in
      (k, found.1, ap (λ (z : ℕ × ℕ). z.0) at ∙ sym here, ap (λ (z : ℕ × ℕ). z.1) at);
  rising = λ i j less within.
      not-less (get_or pairs j (0, 0)).0 (get_or pairs i (0, 0)).0 (get_or pairs j (0, 0)).1 (get_or pairs i (0, 0)).1
      (sorted_far (λ x y. is_lt (compare_pairs x y)) (ranks_by (then_total (on_total (λ (t : ℕ × ℕ). t.0) nat_cmp_total) (on_total (λ (t : ℕ × ℕ). t.1) nat_cmp_total)) (λ (t : ℕ × ℕ). t)) pairs sorted i j (0, 0) (omega (arith, less)) within);
}

pub none_sorted : (addr : List ℕ) (pairs : List (ℕ × ℕ)) → pairs ≡ [] → AreSorted addr None pairs
none_sorted addr pairs e =
    let z : length pairs ≡ 0 = ap length e in
    record {
      has = λ i lt. absurd (omega (arith, z, lt));
      all = λ index address (t, f, lt, is). absurd (none_some t f);
      rising = λ i j less within. absurd (omega (arith, z, within));
    }

-- one level up
pub narrows : (tree : List ℕ) (count from to low high best : ℕ) → AreHalves count tree → low < high → IsNarrowed tree from to low high best →
    IsNarrowed tree from to (count + (low + 1) / 2) (count + high / 2) (min (min best (get_or tree low 0)) (get_or tree (high - 1) 0))
narrows tree count from to low high best halves lt old =
    let size : length tree ≡ count + (count - 1) = halves.size in
    let half : (i : ℕ) → low + 1 ≤ 2 * i + 1 → 2 * i + 1 < high → get_or tree (count + i) 0 ≡ min (get_or tree (2 * i) 0) (get_or tree (2 * i + 1) 0)
    = λ i a b. halves.each i (omega (arith, size, old.inside, b)) in
    record {
      inside = omega (arith, size, old.inside);
      one = least_one tree from to (min best (get_or tree low 0)) (get_or tree (high - 1) 0)
          (least_one tree from to best (get_or tree low 0) old.one (old.each low (omega arith) lt))
          (old.each (high - 1) (omega (arith, lt)) (omega (arith, lt)));
      each = λ i a b.
          let k : ℕ = i - count in
          let e : i ≡ count + k = omega (arith, a) in
          let lo : low ≤ 2 * k = omega (arith, a) in
          let hi : 2 * k + 1 < high = omega (arith, b) in
          subst (λ (z : ℕ). IsOneOf tree from to (get_or tree z 0)) (sym e) (
          subst (λ (z : ℕ). IsOneOf tree from to z) (sym (half k (omega (arith, lo)) hi)) (
          least_one tree from to (get_or tree (2 * k) 0) (get_or tree (2 * k + 1) 0) (old.each (2 * k) lo (omega (arith, hi))) (old.each (2 * k + 1) (omega (arith, lo)) hi)));
      least = λ x le rest. old.least x (omega (arith, le)) (λ i a b.
          elim (cases_eq i low) [
            | inl same ↦ rw same (omega (arith, le))
            | inr other ↦ elim (cases_eq i (high - 1)) [
              | inl same ↦ rw same (omega (arith, le))
              | inr more ↦
                  let k : ℕ = i / 2 in
                  let lo : low + 1 ≤ i = omega (arith, a, other) in
                  let hi : i + 2 ≤ high = omega (arith, b, more) in
                  let f : get_or tree (count + k) 0 ≡ min (get_or tree (2 * k) 0) (get_or tree (2 * k + 1) 0) = halves.each k (omega (arith, size, old.inside, hi)) in
                  let g : x ≤ get_or tree (count + k) 0 = rest (count + k) (omega (arith, lo)) (omega (arith, hi)) in
                  elim (evens i) [
                    | inl even ↦ subst (λ (z : ℕ). x ≤ get_or tree z 0) even (omega (arith, f, g))
                    | inr odd ↦ subst (λ (z : ℕ). x ≤ get_or tree z 0) odd (omega (arith, f, g))
                  ]
            ]
          ]);
    }

-- the least of some leaves is the least index
module _ (addr : List ℕ) (context : Context) (pairs : List (ℕ × ℕ)) (is : AreSorted addr context.table pairs) where
  -- the pairs of the addresses from one up to another are those from low up to high
  pub some_index : (tree : List ℕ) (from to low high best : ℕ) → IsTree pairs tree → high ≤ length pairs →
      ((i : ℕ) → i < low → (pair_at pairs i).0 < from) → ((i : ℕ) → low ≤ i → i < length pairs → from ≤ (pair_at pairs i).0) →
      ((i : ℕ) → i < high → (pair_at pairs i).0 ≤ to) → ((i : ℕ) → high ≤ i → i < length pairs → to < (pair_at pairs i).0) →
      IsLeastOf tree low high best → IsLeastIndex addr context from to best
  some_index tree from to low high best t inside before above below behind l =
      let within : l.at < length pairs = omega (arith, l.below, inside) in
      let e : (pair_at pairs l.at).1 ≡ best = sym (t.leaves l.at within) ∙ l.is in
      record {
        address = (pair_at pairs l.at).0;
        is = subst (λ (z : ℕ). IsInTable addr context.table z (pair_at pairs l.at).0) e (is.has l.at within);
        above = above l.at l.above within;
        below = below l.at l.below;
        least = λ other at x a b.
            let f = is.all other at x in
            let k : ℕ = f.0 in
            let lo : low ≤ k = elim (cases_lt k low) [ inl lt ↦ absurd (omega (arith, before k lt, a, f.2)) | inr ge ↦ ge ] in
            let hi : k < high = elim (cases_lt k high) [ inl lt ↦ lt | inr ge ↦ absurd (omega (arith, behind k ge f.1, b, f.2)) ] in
            omega (arith, l.least k lo hi, t.leaves k f.1, f.3);
      }

  pub no_index_between : (from to low high : ℕ) → high ≤ low →
      ((i : ℕ) → i < low → (pair_at pairs i).0 < from) → ((i : ℕ) → high ≤ i → i < length pairs → to < (pair_at pairs i).0) →
      HasNoIndex addr context from to
  no_index_between from to low high order before behind other at x a b =
      let f = is.all other at x in
      let k : ℕ = f.0 in
      elim (cases_lt k low) [
        | inl lt ↦ omega (arith, before k lt, a, f.2)
        | inr ge ↦ omega (arith, behind k (omega (arith, ge, order)) f.1, b, f.2)
      ]

  -- the first pair from an address on
  pub this_index : (address i : ℕ) → i < length pairs → ((j : ℕ) → j < i → (pair_at pairs j).0 < address) → (pair_at pairs i).0 ≡ address → IsLeastIndex addr context address address (pair_at pairs i).1
  this_index address i inside before e = record {
    address = (pair_at pairs i).0;
    is = is.has i inside;
    above = omega (arith, e);
    below = omega (arith, e);
    least = λ other at x a b.
        let f = is.all other at x in
        let k : ℕ = f.0 in
        let lo : i ≤ k = elim (cases_lt k i) [ inl lt ↦ absurd (omega (arith, before k lt, a, f.2)) | inr ge ↦ ge ] in
        elim (cases_eq i k) [
          | inl same ↦ subst (λ (z : ℕ). (pair_at pairs i).1 ≤ z) (ap (λ (z : ℕ). (pair_at pairs z).1) same ∙ f.3) (omega arith)
          | inr differ ↦ elim (is.rising i k (omega (arith, lo, differ)) f.1) [
            | inl less ↦ absurd (omega (arith, less, e, b, f.2))
            | inr (same, le) ↦ omega (arith, le, f.3)
          ]
        ];
  }

  pub not_this : (address i : ℕ) → ((j : ℕ) → j < i → (pair_at pairs j).0 < address) → ((j : ℕ) → i ≤ j → j < length pairs → address ≤ (pair_at pairs j).0) → (i < length pairs → (pair_at pairs i).0 ≡ address → ⊥) → HasNoIndex addr context address address
  not_this address i before behind out other at x a b =
      let f = is.all other at x in
      let k : ℕ = f.0 in
      let lo : i ≤ k = elim (cases_lt k i) [ inl lt ↦ absurd (omega (arith, before k lt, a, f.2)) | inr ge ↦ ge ] in
      let inside : i < length pairs = omega (arith, lo, f.1) in
      let here : address ≤ (pair_at pairs i).0 = behind i (omega arith) inside in
      elim (cases_eq i k) [
        | inl same ↦ out inside (ap (λ (z : ℕ). (pair_at pairs z).0) same ∙ (omega (arith, f.2, a, b)))
        | inr differ ↦ elim (is.rising i k (omega (arith, lo, differ)) f.1) [
          | inl less ↦ absurd (omega (arith, less, here, f.2, b))
          | inr (same, le) ↦ out inside (same ∙ omega (arith, f.2, a, b))
        ]
      ]

pub narrows_as : (tree : List ℕ) (count from to low high best first last : ℕ) → AreHalves count tree → low < high → first ≡ min best (get_or tree low 0) → last ≡ min first (get_or tree (high - 1) 0) → IsNarrowed tree from to low high best →
    IsNarrowed tree from to (count + (low + 1) / 2) (count + high / 2) last
narrows_as tree count from to low high best first last halves lt e f old =
    let g : min (min best (get_or tree low 0)) (get_or tree (high - 1) 0) ≡ last = omega (arith, e, f) in
    subst (λ (z : ℕ). IsNarrowed tree from to (count + (low + 1) / 2) (count + high / 2) z) g (narrows tree count from to low high best halves lt old)

pub sorted_slice : (addr : List ℕ) (table : Option AddrTable) (map : AddressMap) (pairs : List (ℕ × ℕ)) → pairs ≡ map.sorted.items → IsMapOf addr table map → AreSorted addr table pairs
sorted_slice addr table map pairs e is = subst (λ (z : List (ℕ × ℕ)). AreSorted addr table z) (sym e) is.sorted

pub tree_slice : (addr : List ℕ) (table : Option AddrTable) (map : AddressMap) (pairs : List (ℕ × ℕ)) (tree : List ℕ) → pairs ≡ map.sorted.items → tree ≡ map.tree.items → IsMapOf addr table map → IsTree pairs tree
tree_slice addr table map pairs tree e f is = subst (λ (z : List (ℕ × ℕ)). IsTree z tree) (sym e) (subst (λ (z : List ℕ). IsTree map.sorted.items z) (sym f) is.tree)

pub of_table : (addr : List ℕ) (table : Option AddrTable) (t : AddrTable) (sorted pairs : List (ℕ × ℕ)) → table ≡ Some t → sorted ≡ pairs → AreSorted addr (Some t) pairs → AreSorted addr table sorted
of_table addr table t sorted pairs e f is = subst (λ (z : Option AddrTable). AreSorted addr z sorted) (sym e) (subst (λ (z : List (ℕ × ℕ)). AreSorted addr (Some t) z) (sym f) is)

pub of_none : (addr : List ℕ) (table : Option AddrTable) (sorted : List (ℕ × ℕ)) → table ≡ None → sorted ≡ [] → AreSorted addr table sorted
of_none addr table sorted e f = subst (λ (z : Option AddrTable). AreSorted addr z sorted) (sym e) (none_sorted addr sorted f)
