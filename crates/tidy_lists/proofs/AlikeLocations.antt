-- Of two files that mean the same, what is a location in one is one in the other, and so with the bases of location lists.
use Rattle.std.proofs.Common.{◌≡◌, ◌∙◌, ◌⊎◌, inl, inr, ℕ, true, true≢false, sym, ap, subst, refl}
use Rattle.std.proofs.lemmas.Bool.{eq-eqb, eqb-true}
use Rattle.form_codec.specs.Forms.{Meaning}
use Rattle.form_codec.specs.Forms.Meaning.{Expression, InUnit, InSection, SectionPlace, LocationList, RangeList}
use Rattle.list_model.specs.declared.entry.ListKind.TheVariants.{Ranges, Locations}
use Rattle.value_links.specs.Attributes.{offset_class, location, loclists_base}
use Rattle.value_links.specs.Linked.{Linked, is_located, OffsetLinks, IsLinked}
use Rattle.value_links.specs.Linked.Linked.{ListAt}
use Rattle.value_links.specs.ListPlaces.{IsSlot, IsBaseOf, IsOffsetsAt}
use Rattle.value_links.specs.Linked.{TellsPlace}
use Rattle.value_links.specs.Reading.{Reading, unit_at}
use Rattle.value_links.specs.Resolved.{Resolved, Resolves, ResolvesLink, ListMeaning}
use Rattle.value_links.specs.Resolved.Resolved.{AList, Indexed, PartOf}
use Rattle.value_links.specs.Values.{HasValueAt}

-- what is the value of a location
abbrev pub IsOfLocation : Resolved → Type 0
IsOfLocation (AList meaning) = Unit {0}
IsOfLocation (Indexed i meaning) = meaning.kind ≡ Locations
IsOfLocation value = ⊥

abbrev IsPart : Resolved → Type 0
IsPart (PartOf kind p) = Unit {0}
IsPart value = ⊥

module _ (r : Reading) (u id name : ℕ) where
  class_of : (n : ℕ) (linked : Linked) → name ≡ location → OffsetLinks r.links u id (offset_class name) n linked → linked ≡ ListAt Locations n
  class_of n linked e links = (subst (λ (z : ℕ). OffsetLinks r.links u id (offset_class z) n linked) e links).1

  pub located_value : (meaning : Meaning) (value : Resolved) → is_located (name, meaning) ≡ true → Resolves r u id name meaning value →
      IsOfLocation value
  located_value (SectionPlace n) value is resolves =
      let e : resolves.linked ≡ ListAt Locations n = class_of n resolves.linked (eqb-true name location is) resolves.links in
      let (m, means, same) = subst (λ (z : Linked). ResolvesLink r z value) e resolves.resolves in
      subst IsOfLocation (sym same) tt
  located_value (LocationList i) value is resolves =
      let (p, base, counted, e) = resolves.links in
      let (at, m, names, means, same) = subst (λ (z : Linked). ResolvesLink r z value) e resolves.resolves in
      subst IsOfLocation (sym same) means.same
  located_value meaning value is resolves = absurd (true≢false (sym is))

  pub value_located : (meaning : Meaning) (value : Resolved) → name ≡ location → IsOfLocation value → Resolves r u id name meaning value →
      is_located (name, meaning) ≡ true
  value_located (SectionPlace n) value e is resolves = eq-eqb name location e
  value_located (LocationList i) value e is resolves = eq-eqb name location e
  value_located (RangeList i) value e is resolves =
      let (p, base, counted, linked) = resolves.links in
      let (at, m, names, means, same) = subst (λ (z : Linked). ResolvesLink r z value) linked resolves.resolves in
      let kind : m.kind ≡ Locations = subst IsOfLocation same is in
      let other : Ranges ≡ Locations = sym means.same ∙ kind in
      absurd (cc)
  value_located (InUnit n) value e is resolves =
      let (target, local, linked) = resolves.links in
      absurd (subst IsOfLocation (subst (λ (z : Linked). ResolvesLink r z value) linked resolves.resolves) is)
  value_located (InSection n) value e is resolves =
      let (unit, target, local, linked) = resolves.links in
      absurd (subst IsOfLocation (subst (λ (z : Linked). ResolvesLink r z value) linked resolves.resolves) is)
  value_located (Expression bytes) value e is resolves =
      let (operations, spelled, linked) = resolves.links in
      absurd (subst IsOfLocation (subst (λ (z : Linked). ResolvesLink r z value) linked resolves.resolves) is)
  value_located meaning value e is resolves = absurd (subst IsOfLocation (subst (λ (z : Linked). ResolvesLink r z value) resolves.links resolves.resolves) is)

  -- the value of a location is a list by its place, or the number of one of a contribution
  abbrev pub TellsAs : ℕ → Resolved → ℕ → Type 0
  TellsAs number value list =
      ((meaning : ListMeaning) × (value ≡ AList meaning) × IsLinked r.links u number (ListAt Locations list)) ⊎ ((i : ℕ) × (meaning : ListMeaning) × (p : ℕ) × (value ≡ Indexed i meaning) × IsBaseOf r.links u Locations p × IsSlot r.links.locations p i list)

  pub tells_as : (number place list : ℕ) (meaning : Meaning) (value : Resolved) → HasValueAt (unit_at r.links u) id number name meaning place →
      is_located (name, meaning) ≡ true → TellsPlace r.links u meaning list → Resolves r u id name meaning value → TellsAs number value list
  tells_as number place list (SectionPlace n) value stands is (here, same_place) resolves =
      let e : resolves.linked ≡ ListAt Locations n = class_of n resolves.linked (eqb-true name location is) resolves.links in
      let (m, means, same) = subst (λ (z : Linked). ResolvesLink r z value) e resolves.resolves in
      let own : IsLinked r.links u number resolves.linked =
      record { id = id; name = name; meaning = SectionPlace n; place = place; stands = stands; links = resolves.links } in
      inl (m, same, subst (IsLinked r.links u number) (e ∙ ap (λ (z : ℕ). ListAt Locations z) (sym same_place)) own)
  tells_as number place list (LocationList i) value stands is (p, base, slot) resolves =
      let (q, other, counted, e) = resolves.links in
      let (at, m, names, means, same) = subst (λ (z : Linked). ResolvesLink r z value) e resolves.resolves in
      inr (i, m, p, same, base, slot)
  tells_as number place list meaning value stands is none resolves = absurd none

  -- A base of location lists is the number of a contribution.
  pub base_value : (n p : ℕ) (meaning : Meaning) (value : Resolved) → name ≡ loclists_base → meaning ≡ SectionPlace n →
      IsOffsetsAt r.links.locations n p → ((q : ℕ) → IsOffsetsAt r.links.locations n q → q ≡ p) → Resolves r u id name meaning value →
      value ≡ PartOf Locations p
  base_value n p meaning value e is at one resolves =
      let here : Resolves r u id name (SectionPlace n) value = subst (λ (z : Meaning). Resolves r u id name z value) is resolves in
      by_offset here.linked here.links here.resolves
    where
      by_offset : (linked : Linked) → OffsetLinks r.links u id (offset_class name) n linked → ResolvesLink r linked value → value ≡ PartOf Locations p
      by_offset linked links means =
          let (q, there, same) = subst (λ (z : ℕ). OffsetLinks r.links u id (offset_class z) n linked) e links in
          subst (λ (z : Linked). ResolvesLink r z value) same means ∙ ap (λ (z : ℕ). PartOf Locations z) (one q there)

  -- and only section offsets are
  pub value_base : (meaning : Meaning) (value : Resolved) (p : ℕ) → value ≡ PartOf Locations p → Resolves r u id name meaning value →
      (n : ℕ) × (meaning ≡ SectionPlace n)
  value_base (SectionPlace n) value p e resolves = (n, refl)
  value_base (LocationList i) value p e resolves =
      let (q, base, counted, linked) = resolves.links in
      let (at, m, names, means, same) = subst (λ (z : Linked). ResolvesLink r z value) linked resolves.resolves in
      absurd (subst IsPart (sym e ∙ same) tt)
  value_base (RangeList i) value p e resolves =
      let (q, base, counted, linked) = resolves.links in
      let (at, m, names, means, same) = subst (λ (z : Linked). ResolvesLink r z value) linked resolves.resolves in
      absurd (subst IsPart (sym e ∙ same) tt)
  value_base (InUnit n) value p e resolves =
      let (target, local, linked) = resolves.links in
      absurd (subst IsPart (sym e ∙ subst (λ (z : Linked). ResolvesLink r z value) linked resolves.resolves) tt)
  value_base (InSection n) value p e resolves =
      let (unit, target, local, linked) = resolves.links in
      absurd (subst IsPart (sym e ∙ subst (λ (z : Linked). ResolvesLink r z value) linked resolves.resolves) tt)
  value_base (Expression bytes) value p e resolves =
      let (operations, spelled, linked) = resolves.links in
      absurd (subst IsPart (sym e ∙ subst (λ (z : Linked). ResolvesLink r z value) linked resolves.resolves) tt)
  value_base meaning value p e resolves = absurd (subst IsPart (sym e ∙ subst (λ (z : Linked). ResolvesLink r z value) resolves.links resolves.resolves) tt)
