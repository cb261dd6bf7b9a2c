-- The contexts of units that name one list, looked at one by one.
use Rattle.std.proofs.Common.{◌≡◌, ◌≢◌, ◌≤◌, ◌<◌, ◌+◌, ◌-◌, ◌^◌, ◌⊎◌, ◌∙◌, ◌++◌, inl, inr, ℕ, List, [], ◌∷◌, length, get_or, take, sym, ap, subst, refl, arith}
use Rattle.std.specs.Prelude.{Bool, true, false, Some, None}
use Rattle.std.specs.List.{All, Contains}
use Rattle.std.proofs.lemmas.Bool.{true≢false, cases_lt}
use Rattle.std.proofs.lemmas.List.{take_more, get_or_default}
use Rattle.std.proofs.lemmas.List.Elements.{All-contains, Contains-get_or, Contains-append_left, Contains-push, Contains-push_cases}
use Rattle.list_model.specs.declared.context.Context.{Context}
use Rattle.list_model.specs.declared.entry.ListKind.{ListKind}
use Rattle.list_model.specs.declared.entry.RawEntry.{RawEntry}
use Rattle.list_model.specs.Items.{HasTable}
use Rattle.value_links.specs.Reading.{ListSection, no_context}
use Rattle.value_links.specs.inside.Namings.{first_naming, slot_number, IsSomeNaming, AreInOrder}
use Rattle.value_links.specs.inside.NamedLists.{HasUnit, context_held, IsLookedUpIn, AreLookedUpBy, IsOtherContext, IsNextContext}

-- UNITS

-- a unit of one naming more
module _ (named : List (ℕ × ℕ)) (i : ℕ) (inside : i < length named) (x : ℕ × ℕ) (is : x ≡ get_or named i x) where
  more : take (i + 1) named ≡ take i named ++ x ∷ []
  more = take_more named i x inside ∙ ap (λ (z : ℕ × ℕ). take i named ++ z ∷ []) (sym is)

  pub unit_kept : (u : ℕ) → HasUnit (take i named) u → HasUnit (take (i + 1) named) u
  unit_kept u (real, (at, has)) = (real, (at, subst (λ (z : List (ℕ × ℕ)). Contains z (at, u)) (sym more) (Contains-append_left (take i named) (x ∷ []) (at, u) has)))

  pub unit_new : x.1 ≢ slot_number → HasUnit (take (i + 1) named) x.1
  unit_new real = (real, (x.0, subst (λ (z : List (ℕ × ℕ)). Contains z x) (sym more) (Contains-push (take i named) x)))

  pub unit_cases : (u : ℕ) → HasUnit (take (i + 1) named) u → HasUnit (take i named) u ⊎ ((u ≡ x.1) × (u ≢ slot_number))
  unit_cases u (real, (at, has)) = elim (Contains-push_cases (take i named) x (at, u) (subst (λ (z : List (ℕ × ℕ)). Contains z (at, u)) more has)) [
    | inl before ↦ inl (real, (at, before))
    | inr same ↦ inr (sym (ap (λ (z : ℕ × ℕ). z.1) same), real)
  ]

pub no_unit_yet : (named : List (ℕ × ℕ)) (u : ℕ) → HasUnit (take 0 named) u → ⊥
no_unit_yet named u (real, (at, has)) = let none = has.1 in absurd (omega arith)

-- CONTEXTS

-- what is known after some of the units: whether one has another context than the owner's, and the context that was seen last
pub record AreWalked (of : ListKind) (addr : List ℕ) (contexts : List Context) (named : List (ℕ × ℕ)) (raws : List RawEntry) (owned : Context) (i : ℕ) (shared : Bool) (last : Context) : Type 0 where
  pub looked : AreLookedUpBy of addr contexts (take i named) raws
  pub other : IsOtherContext contexts (take i named) owned shared
  pub known : IsLookedUpIn of addr raws last
  pub alone : shared ≡ false → last ≡ owned

pub none_walked : (of : ListKind) (addr : List ℕ) (contexts : List Context) (named : List (ℕ × ℕ)) (raws : List RawEntry) (owned : Context) → IsLookedUpIn of addr raws owned → AreWalked of addr contexts named raws owned 0 false owned
none_walked of addr contexts named raws owned known = record {
  looked = λ u has. absurd (no_unit_yet named u has);
  other = λ u has. absurd (no_unit_yet named u has);
  known = known;
  alone = λ e. refl;
}

module _ (of : ListKind) (addr : List ℕ) (contexts : List Context) (named : List (ℕ × ℕ)) (raws : List RawEntry) (owned : Context) (i : ℕ) (inside : i < length named) (x : ℕ × ℕ) (is : x ≡ get_or named i x) where
  -- a slot tells nothing
  other_slot : (shared : Bool) → x.1 ≡ slot_number → IsOtherContext contexts (take i named) owned shared → IsOtherContext contexts (take (i + 1) named) owned shared
  other_slot true slot (u, has, apart) = (u, unit_kept named i inside x is u has, apart)
  other_slot false slot same = λ u has. elim (unit_cases named i inside x is u has) [
    | inl before ↦ same u before
    | inr here ↦ absurd (here.1 (here.0 ∙ slot))
  ]

  slot_walked : (shared : Bool) (last : Context) → x.1 ≡ slot_number → AreWalked of addr contexts named raws owned i shared last → AreWalked of addr contexts named raws owned (i + 1) shared last
  slot_walked shared last slot w = record {
    looked = λ u has. elim (unit_cases named i inside x is u has) [ inl before ↦ w.looked u before | inr here ↦ absurd (here.1 (here.0 ∙ slot)) ];
    other = other_slot shared slot w.other;
    known = w.known;
    alone = w.alone;
  }

  -- nor does a unit whose context is the last one
  other_same : (shared : Bool) (last : Context) → context_held contexts x.1 ≡ last → (shared ≡ false → last ≡ owned) → IsOtherContext contexts (take i named) owned shared → IsOtherContext contexts (take (i + 1) named) owned shared
  other_same true last same alone (u, has, apart) = (u, unit_kept named i inside x is u has, apart)
  other_same false last same alone all = λ u has. elim (unit_cases named i inside x is u has) [
    | inl before ↦ all u before
    | inr here ↦ ap (context_held contexts) here.0 ∙ same ∙ alone refl
  ]

  same_walked : (shared : Bool) (last : Context) → context_held contexts x.1 ≡ last → AreWalked of addr contexts named raws owned i shared last → AreWalked of addr contexts named raws owned (i + 1) shared last
  same_walked shared last same w = record {
    looked = λ u has. elim (unit_cases named i inside x is u has) [
      | inl before ↦ w.looked u before
      | inr here ↦ subst (IsLookedUpIn of addr raws) (sym (ap (context_held contexts) here.0 ∙ same)) w.known
    ];
    other = other_same shared last same w.alone w.other;
    known = w.known;
    alone = w.alone;
  }

  -- a unit with another one does
  other_next : (shared : Bool) (last : Context) → x.1 ≢ slot_number → context_held contexts x.1 ≢ last → (shared ≡ false → last ≡ owned) → IsOtherContext contexts (take i named) owned shared → IsOtherContext contexts (take (i + 1) named) owned true
  other_next true last real apart alone (u, has, other) = (u, unit_kept named i inside x is u has, other)
  other_next false last real apart alone all = (x.1, unit_new named i inside x is real, λ e. apart (e ∙ sym (alone refl)))

  next_walked : (shared : Bool) (last next : Context) → x.1 ≢ slot_number → next ≡ context_held contexts x.1 → next ≢ last → IsLookedUpIn of addr raws next → AreWalked of addr contexts named raws owned i shared last → AreWalked of addr contexts named raws owned (i + 1) true next
  next_walked shared last next real e apart known w = record {
    looked = λ u has. elim (unit_cases named i inside x is u has) [
      | inl before ↦ w.looked u before
      | inr here ↦ subst (IsLookedUpIn of addr raws) (e ∙ sym (ap (context_held contexts) here.0)) known
    ];
    other = other_next shared last real (λ same. apart (e ∙ same)) w.alone w.other;
    known = known;
    alone = λ no. absurd (true≢false no);
  }

  -- so the next context is looked at
  pub walked_none : (shared : Bool) (last : Context) → IsNextContext of addr contexts raws x.1 last None → AreWalked of addr contexts named raws owned i shared last → AreWalked of addr contexts named raws owned (i + 1) shared last
  walked_none shared last none w = elim none [ inl slot ↦ slot_walked shared last slot w | inr same ↦ same_walked shared last same w ]

  pub walked_some : (shared : Bool) (last next : Context) → IsNextContext of addr contexts raws x.1 last (Some next) → AreWalked of addr contexts named raws owned i shared last → AreWalked of addr contexts named raws owned (i + 1) true next
  walked_some shared last next (real, e, apart, known) w = next_walked shared last next real e apart known w

-- WHAT IS HELD

-- the context of a unit that is held
pub context_is : (contexts : List Context) (u : ℕ) (context : Context) → u < length contexts → context ≡ get_or contexts u context → context ≡ context_held contexts u
context_is contexts u context inside e = e ∙ get_or_default contexts u context no_context inside

-- its table stands
pub table_there : (addr : List ℕ) (contexts : List Context) (u : ℕ) (context : Context) → All (λ (c : Context). HasTable addr c.table) contexts → u < length contexts → context ≡ get_or contexts u context → HasTable addr context.table
table_there addr contexts u context all inside e = subst (λ (c : Context). HasTable addr c.table) (sym e) (all u context inside)

-- the context of the first unit of a list
pub first_unit : (named : List (ℕ × ℕ)) → 0 < length named → (first_naming named).1 ≢ slot_number → HasUnit named (first_naming named).1
first_unit named some real = (real, ((first_naming named).0, Contains-get_or named 0 (0, 0) some))

-- no unit of a list has a lower number than the first one
pub first_least : (named : List (ℕ × ℕ)) → AreInOrder named → ((y : ℕ × ℕ) → Contains named y → y.0 ≡ (first_naming named).0) → (u : ℕ) → HasUnit named u → (first_naming named).1 ≤ u
first_least named order here u (real, (at, (k, inside, e))) =
    let is : get_or named k (0, 0) ≡ (at, u) = get_or_default named k (0, 0) (at, u) inside ∙ e in
    let number : (get_or named k (0, 0)).1 ≡ u = ap (λ (z : ℕ × ℕ). z.1) is in
    elim (cases_lt 0 k) [
      | inl later ↦
          let same : (get_or named k (0, 0)).0 ≡ (first_naming named).0 = here (get_or named k (0, 0)) (Contains-get_or named k (0, 0) inside) in
          elim (order 0 k (0, 0) later inside) [
            | inl less ↦ let under : (first_naming named).0 < (get_or named k (0, 0)).0 = less in absurd (omega arith)
            | inr (_, up) ↦ let over : (first_naming named).1 ≤ (get_or named k (0, 0)).1 = up in omega arith
          ]
      | inr first ↦
          let zero : 0 ≡ k = omega arith in
          let own : (first_naming named).1 ≡ (get_or named k (0, 0)).1 = ap (λ (z : ℕ). (get_or named z (0, 0)).1) zero in
          omega arith
    ]

-- where a slot stands first no unit names the list
pub slots_alone : (section : ListSection) (units : ℕ) (named : List (ℕ × ℕ)) → AreInOrder named → ((y : ℕ × ℕ) → Contains named y → y.0 ≡ (first_naming named).0) → All (IsSomeNaming section units) named → units < 2 ^ 32 → (first_naming named).1 ≡ slot_number → (u : ℕ) → HasUnit named u → ⊥
slots_alone section units named order here known few slot u (real, (at, has)) =
    let low : (first_naming named).1 ≤ u = first_least named order here u (real, (at, has)) in
    let some : IsSomeNaming section units (at, u) = All-contains (IsSomeNaming section units) named (at, u) known has in
    elim some.numbered [
      | inl under ↦ let less : u < units = under in let first : (first_naming named).1 ≡ 2 ^ 32 - 1 = slot in absurd (omega arith)
      | inr other ↦ real other
    ]

-- the context of the first unit, where it is one
pub first_context : (section : ListSection) (units : ℕ) (named : List (ℕ × ℕ)) (contexts : List Context) (context : Context) → All (IsSomeNaming section units) named → 0 < length named → length contexts ≡ units → (first_naming named).1 ≢ slot_number → context ≡ get_or contexts (first_naming named).1 context → context ≡ context_held contexts (first_naming named).1
first_context section units named contexts context known some counted real e =
    let first : IsSomeNaming section units (first_naming named) = known 0 (0, 0) some in
    elim first.numbered [
      | inl under ↦ context_is contexts (first_naming named).1 context (subst (λ (z : ℕ). (first_naming named).1 < z) (sym counted) under) e
      | inr slot ↦ absurd (real slot)
    ]
