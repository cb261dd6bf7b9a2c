-- All namings of a file, in their order.
use Rattle.std.proofs.Common.{◌≡◌, ◌≤◌, ◌<◌, ◌⊎◌, inl, inr, ℕ, List, [], length, get_or, eqb, ltb, sym, subst, refl, arith}
use Rattle.std.specs.List.{All, Contains}
use Rattle.std.specs.List.Sorted.{IsPermutation, IsSorted}
use Rattle.std.specs.Prelude.{true, false}
use Rattle.std.specs.Ordering.{is_lt, nat_cmp, ordering_then}
use Rattle.std.proofs.lemmas.Bool.{cases_lt, cases_order, eq-eqb, le-ltb, lt-ltb, true≢false}
use Rattle.std.proofs.lemmas.List.Elements.{All-contains, All-contains_itself, Contains-get_or}
use Rattle.std.proofs.lemmas.List.Sorted.{All-permutation, Contains-permutation, sorted_far, ranks_by}
use Rattle.std.proofs.lemmas.Cmp.{nat_cmp_total, then_total, on_total}
use Rattle.elf_place.proofs.Orders.{compare_pairs}
use Rattle.list_model.specs.declared.entry.ListKind.{ListKind}
use Rattle.value_links.specs.Reading.{ListSection, Linkable, of_kind}
use Rattle.value_links.specs.ListPlaces.{SlotNames}
use Rattle.value_links.specs.Whole.{IsReadToLinks}
use Rattle.value_links.specs.inside.Namings.{slot_number, AreJoined, IsPartNaming, ArePartsFollowed, IsUnitNaming, IsSomeNaming, AreNamings, AreInOrder}
use Rattle.value_links.proofs.NamingValues.{unit_naming_is, is_unit_naming}

-- a pair that isn't less than another stands no earlier
not_less : (x y u v : ℕ) → is_lt (ordering_then (nat_cmp x y) (nat_cmp u v)) ≡ false → (y < x) ⊎ ((y ≡ x) × (v ≤ u))
not_less x y u v h =
    elim (cases_order x y) [
      | inl same ↦ elim (cases_lt u v) [
        | inl less ↦
            let first : ltb x y ≡ false = le-ltb x y (omega arith) in
            let equal : eqb x y ≡ true = eq-eqb x y same in
            let second : ltb u v ≡ true = lt-ltb u v less in
            let done = rw (first, equal, second) at h in
            absurd (true≢false done)
        | inr above ↦ inr (sym same, above)
      ]
      | inr (inl less) ↦
          let first : ltb x y ≡ true = lt-ltb x y less in
          let done = rw first at h in
          absurd (true≢false done)
      | inr (inr more) ↦ inl more
    ]

-- a sort of pairs puts them in their order
pub sorted_namings : (namings : List (ℕ × ℕ)) → IsSorted compare_pairs namings → AreInOrder namings
sorted_namings namings sorted i j d less inside =
    let far : is_lt (compare_pairs (get_or namings j d) (get_or namings i d)) ≡ false =
    sorted_far (λ x y. is_lt (compare_pairs x y)) (ranks_by (then_total (on_total (λ (t : ℕ × ℕ). t.0) nat_cmp_total) (on_total (λ (t : ℕ × ℕ). t.1) nat_cmp_total)) (λ (t : ℕ × ℕ). t)) namings sorted i j d (omega arith) inside in
    elim (not_less (get_or namings j d).0 (get_or namings i d).0 (get_or namings j d).1 (get_or namings i d).1 far) [
      | inl under ↦ inl under
      | inr same ↦ inr same
    ]

-- those of slots and those of entries are all
module _ (file : List ℕ) (r : Linkable) (read : IsReadToLinks file r) (kind : ListKind) (section : ListSection) (same : section ≡ of_kind r kind) (by_slots both all : List (ℕ × ℕ)) where
  pub all_namings : AreJoined [] by_slots (IsPartNaming section (length section.parts)) → ArePartsFollowed section (length section.parts) → AreJoined by_slots both (IsUnitNaming r kind (length r.units)) → IsPermutation both all → AreNamings r kind all
  all_namings slots followed units moved = record {
    each = λ y has. elim (units.from y (All-contains (Contains both) all y (All-permutation (Contains both) both all moved (All-contains_itself both)) has)) [
      | inl slot ↦ elim (slots.from y slot) [
        | inl none ↦ absurd (omega (arith, none.1))
        | inr (p, p_in, (i, i_in, (names, e))) ↦ inr ((p, i, subst (λ (z : ListSection). SlotNames z p i y.0) same names), e)
      ]
      | inr is ↦ inl (unit_naming_is file r read kind y is)
    ];
    by_entries = λ at u n. Contains-permutation both all (at, u) moved (units.added (at, u) (is_unit_naming file r read kind at u n));
    by_slots = λ at (p, i, names). Contains-permutation both all (at, slot_number) moved (units.kept (at, slot_number) (slots.added (at, slot_number) (there p i at (subst (λ (z : ListSection). SlotNames z p i at) (sym same) names))));
    slots = subst (λ (z : ListSection). ArePartsFollowed z (length z.parts)) same followed;
  }
    where
      there : (p i at : ℕ) → SlotNames section p i at → IsPartNaming section (length section.parts) (at, slot_number)
      there p i at names = (p, names.0.known, (i, names.0.counted, (names, refl)))

-- each of them is of a list place, and of a unit or of slots
pub some_namings : (section : ListSection) (units : ℕ) (by_slots both all : List (ℕ × ℕ)) → AreJoined [] by_slots (IsPartNaming section (length section.parts)) → (All (IsSomeNaming section units) by_slots → All (IsSomeNaming section units) both) → IsPermutation both all → All (IsSomeNaming section units) all
some_namings section units by_slots both all slots more moved = All-permutation (IsSomeNaming section units) both all moved (more of_slots)
  where
    of_slot : (y : ℕ × ℕ) → Contains by_slots y → IsSomeNaming section units y
    of_slot y has = elim (slots.from y has) [
      | inl none ↦ absurd (omega (arith, none.1))
      | inr (p, p_in, (i, i_in, (names, e))) ↦ record { begins = names.1; numbered = inr e }
    ]

    of_slots : All (IsSomeNaming section units) by_slots
    of_slots k d inside = of_slot (get_or by_slots k d) (Contains-get_or by_slots k d inside)
