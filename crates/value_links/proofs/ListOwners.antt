-- What the namings of one list tell of the units that name it.
use Rattle.std.proofs.Common.{◌≡◌, ◌≢◌, ◌≤◌, ◌<◌, ◌-◌, ◌^◌, ◌⊎◌, ◌∙◌, inl, inr, ℕ, zero, suc, List, [], ◌∷◌, length, sym, ap, subst, refl, arith}
use Rattle.std.specs.Prelude.{◌↔◌, Option, Some, None, Bool, true, false}
use Rattle.std.specs.List.{Contains}
use Rattle.std.proofs.lemmas.Bool.{cases_eq, true≢false}
use Rattle.std.proofs.lemmas.List.Elements.{Contains-get_or}
use Rattle.list_model.specs.declared.entry.ListKind.{ListKind}
use Rattle.value_links.specs.Reading.{Linkable}
use Rattle.value_links.specs.Lists.{IsNamed, IsNamedIn, IsNamedBySlot, IsUnowned, IsOwner, IsOfTwoUnits}
use Rattle.value_links.specs.inside.ListExpressions.{IsOwnerBy, IsTorn}
use Rattle.value_links.specs.inside.Namings.{first_naming, slot_number, AreNamings}
use Rattle.value_links.specs.inside.NamedLists.{HasUnit, AreNamingsAt}
use Rattle.value_links.proofs.ListContexts.{first_unit, first_least}

-- BY THE NAMINGS ALONE

-- a naming of another unit
abbrev pub HasOther : ℕ → List (ℕ × ℕ) → Type 0
HasOther first named = (y : ℕ × ℕ) × Contains named y × (y.1 ≢ slot_number) × (y.1 ≢ first)

none_empty : (first : ℕ) → ¬ HasOther first []
none_empty first (y, (k, inside, e), real, apart) = absurd (omega arith)

behind : (first : ℕ) (x : ℕ × ℕ) (named : List (ℕ × ℕ)) → HasOther first named → HasOther first (x ∷ named)
behind first x named (y, (k, inside, e), real, apart) = (y, (suc k, omega arith, e), real, apart)

only_behind : (first : ℕ) (x : ℕ × ℕ) (named : List (ℕ × ℕ)) → ((x.1 ≡ slot_number) ⊎ (x.1 ≡ first)) → ¬ HasOther first named → ¬ HasOther first (x ∷ named)
only_behind first x named is none (y, (zero, inside, e), real, apart) = elim is [
  | inl slot ↦ real (ap (λ (z : ℕ × ℕ). z.1) (sym e) ∙ slot)
  | inr same ↦ apart (ap (λ (z : ℕ × ℕ). z.1) (sym e) ∙ same)
]
only_behind first x named is none (y, (suc k, inside, e), real, apart) = none (y, (k, omega arith, e), real, apart)

other_or_none : (first : ℕ) (named : List (ℕ × ℕ)) → HasOther first named ⊎ (¬ HasOther first named)
other_or_none first [] = inr (none_empty first)
other_or_none first (x ∷ named) = elim (other_or_none first named) [
  | inl has ↦ inl (behind first x named has)
  | inr none ↦ elim (cases_eq x.1 slot_number) [
    | inl slot ↦ inr (only_behind first x named (inl slot) none)
    | inr real ↦ elim (cases_eq x.1 first) [
      | inl same ↦ inr (only_behind first x named (inr same) none)
      | inr apart ↦ inl (x, (0, omega arith, refl), real, apart)
    ]
  ]
]

torn_or_whole : (named : List (ℕ × ℕ)) → IsTorn named ⊎ (¬ IsTorn named)
torn_or_whole named = elim (cases_eq (first_naming named).1 slot_number) [
  | inl slot ↦ inl (inl slot)
  | inr real ↦ elim (other_or_none (first_naming named).1 named) [
    | inl has ↦ inl (inr has)
    | inr none ↦ inr (λ (torn : IsTorn named). elim torn [ inl slot ↦ real slot | inr has ↦ none has ])
  ]
]

-- whether a list is torn can be told
pub torn_told : (named : List (ℕ × ℕ)) → (torn : Bool) × ((torn ≡ true) ↔ IsTorn named)
torn_told named = elim (torn_or_whole named) [
  | inl is ↦ (true, (λ e. is, λ t. refl))
  | inr not ↦ (false, (λ e. absurd (true≢false (sym e)), λ t. absurd (not t)))
]

-- so can its owner
pub owner_told : (named : List (ℕ × ℕ)) → (owner : Option ℕ) × IsOwnerBy named owner
owner_told named = elim (cases_eq (first_naming named).1 slot_number) [
  | inl slot ↦ (None, slot)
  | inr real ↦ (Some (first_naming named).1, (refl, real))
]

-- and each in one way
pub owner_once : (named : List (ℕ × ℕ)) (owner other : Option ℕ) → IsOwnerBy named owner → IsOwnerBy named other → owner ≡ other
owner_once named (Some u) (Some v) (e, real) (f, also) = ap Some (sym e ∙ f)
owner_once named (Some u) None (e, real) slot = absurd (real (sym e ∙ slot))
owner_once named None (Some v) slot (f, real) = absurd (real (sym f ∙ slot))
owner_once named None None slot also = refl

pub torn_once : (named : List (ℕ × ℕ)) (torn other : Bool) → ((torn ≡ true) ↔ IsTorn named) → ((other ≡ true) ↔ IsTorn named) → torn ≡ other
torn_once named true true is also = refl
torn_once named true false is also = sym (also.1 (is.0 refl))
torn_once named false true is also = is.1 (also.0 refl)
torn_once named false false is also = refl

-- UNITS OF THE FILE

-- a number of a unit is none of slots
pub real_unit : (r : Linkable) (kind : ListKind) → length r.units < 2 ^ 32 → (at u : ℕ) → IsNamedIn r kind at u → u ≢ slot_number
real_unit r kind few at u named e = let known : u < length r.units = named.known in let slot : u ≡ 2 ^ 32 - 1 = e in absurd (omega arith)

module _ (r : Linkable) (kind : ListKind) (namings : List (ℕ × ℕ)) (are : AreNamings r kind namings) (few : length r.units < 2 ^ 32) (at : ℕ) (named : List (ℕ × ℕ)) (here : AreNamingsAt namings at named) where
  pub first_at : (first_naming named).0 ≡ at
  first_at = here.here (first_naming named) (Contains-get_or named 0 (0, 0) here.some)

  pub same_place : (y : ℕ × ℕ) → Contains named y → y.0 ≡ (first_naming named).0
  same_place y has = here.here y has ∙ sym first_at

  pub unit_named : (u : ℕ) → HasUnit named u → IsNamedIn r kind at u
  unit_named u (real, (b, has)) = elim (are.each (b, u) (here.among (b, u) has)) [
    | inl is ↦ subst (λ (z : ℕ). IsNamedIn r kind z u) (here.here (b, u) has) is
    | inr slot ↦ absurd (real slot.1)
  ]

  pub named_unit : (u : ℕ) → IsNamedIn r kind at u → HasUnit named u
  named_unit u is = (real_unit r kind few at u is, (at, here.all (at, u) (are.by_entries at u is) refl))

  pub is_named : IsNamed r kind at
  is_named =
      let first = first_naming named in
      let has : Contains named first = Contains-get_or named 0 (0, 0) here.some in
      elim (are.each first (here.among first has)) [
        | inl is ↦ inl (first.1, subst (λ (z : ℕ). IsNamedIn r kind z first.1) (here.here first has) is)
        | inr slot ↦ inr (subst (λ (z : ℕ). IsNamedBySlot r kind z) (here.here first has) slot.0)
      ]

  -- its owner
  pub alone : (first_naming named).1 ≡ slot_number → IsUnowned r kind at
  alone slot u is =
      let low : (first_naming named).1 ≤ u = first_least named here.order same_place u (named_unit u is) in
      let known : u < length r.units = is.known in
      let first : (first_naming named).1 ≡ 2 ^ 32 - 1 = slot in
      absurd (omega arith)

  first_named : (first_naming named).1 ≢ slot_number → IsNamedIn r kind at (first_naming named).1
  first_named real = unit_named (first_naming named).1 (first_unit named here.some real)

  pub owner_is : (owner : Option ℕ) → IsOwnerBy named owner → IsOwner r kind at owner
  owner_is (Some u) (e, real) = (
    subst (IsNamedIn r kind at) e (first_named (λ slot. real (sym e ∙ slot))),
    λ earlier less is.
        let low : (first_naming named).1 ≤ earlier = first_least named here.order same_place earlier (named_unit earlier is) in
        absurd (omega arith),
  )
  owner_is None slot = alone slot

  -- entries of two units name it, or none does
  pub torn_is : IsTorn named → IsOfTwoUnits r kind at ⊎ IsUnowned r kind at
  torn_is (inl slot) = inr (alone slot)
  torn_is (inr (y, has, real, apart)) = elim (cases_eq (first_naming named).1 slot_number) [
    | inl slot ↦ inr (alone slot)
    | inr owned ↦ inl (y.1, (first_naming named).1, apart, unit_named y.1 (real, (y.0, has)), first_named owned)
  ]

  other_unit : (u : ℕ) → IsNamedIn r kind at u → u ≢ (first_naming named).1 → IsTorn named
  other_unit u is apart = let (real, (b, has)) = named_unit u is in inr ((b, u), has, real, apart)

  pub two_torn : IsOfTwoUnits r kind at → IsTorn named
  two_torn (u, v, apart, u_named, v_named) = elim (cases_eq u (first_naming named).1) [
    | inr other ↦ other_unit u u_named other
    | inl same ↦ other_unit v v_named (λ e. apart (same ∙ sym e))
  ]
