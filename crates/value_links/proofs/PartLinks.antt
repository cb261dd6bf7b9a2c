-- Contributions and slots that are found in what is held are what values refer to.
use Rattle.std.proofs.Common.{◌≡◌, ◌≤◌, ◌<◌, ◌^◌, ◌∙◌, ℕ, List, length, get_or, sym, ap, subst, refl, arith}
use Rattle.std.specs.Prelude.{Option, Some, None, IfSome, MatchOption}
use Rattle.std.specs.List.{All}
use Rattle.std.proofs.lemmas.List.Elements.{All-from_get_or}
use Rattle.form_codec.specs.Forms.{Meaning}
use Rattle.entry_read.specs.Units.{declarations_of}
use Rattle.list_model.specs.declared.contribution.Contribution.{Contribution}
use Rattle.list_model.specs.declared.entry.ListKind.{ListKind}
use Rattle.list_model.specs.declared.entry.ListKind.TheVariants.{Ranges, Locations}
use Rattle.list_model.specs.Contributions.{ContributionsTile}
use Rattle.value_links.specs.declared.link.Link.TheVariants.{List as AtList, Slot, Base}
use Rattle.value_links.specs.declared.list_places.Contributions.{Contributions}
use Rattle.value_links.specs.declared.parts.Parts.{Parts}
use Rattle.value_links.specs.declared.units.Units.{Units}
use Rattle.value_links.specs.Reading.{ListSection, Linkable, unit_at, of_kind, part_at}
use Rattle.value_links.specs.Values.{root_of, IsFirstBase}
use Rattle.value_links.specs.ListPlaces.{IsListPlace, IsOffsetsAt, IsBaseOf, base_of}
use Rattle.value_links.specs.Linked.{IndexLinks, OffsetLinks}
use Rattle.value_links.specs.Linked.Linked.{ListAt, SlotAt, BaseOf}
use Rattle.value_links.specs.Links.{IsFoundFor, held_at}
use Rattle.value_links.specs.Parts.{section_held, IsBaseFound, HoldsParts, HoldsLists, lists_in, bases_in}
use Rattle.value_links.specs.inside.Checks.{table_held, root_attributes}
use Rattle.value_links.specs.inside.Links.{base_class}
use Rattle.value_links.specs.inside.ListPlaces.{AreContributions, IsPartFound, AreBasesHeld}
use Rattle.value_links.specs.inside.Namings.{class_of}
use Rattle.value_links.proofs.Bases.{one_base}
use Rattle.value_links.proofs.LinkedValues.{parts_count}
use Rattle.value_links.proofs.PartPlaces.{offsets_once, slots_few}
use Rattle.value_links.proofs.NamingPlaces.{base_inside, part_is}

-- the contribution that a base names, or none
pub part_found : (section : ListSection) (attributes : List (ℕ × Meaning)) (name base : ℕ) (found : Option ℕ) → IsFirstBase attributes name base → MatchOption found ((p : ℕ) → ¬ IsOffsetsAt section base p) (IsOffsetsAt section base) → IsPartFound section attributes name found
part_found section attributes name base (Some p) first at = (base, first, at)
part_found section attributes name base None first none = λ p (n, is, at). none p (subst (λ (z : ℕ). IsOffsetsAt section z p) (one_base attributes name n base is first) at)

-- the contributions that roots name are among those of the section
pub bases_inside : (section : ListSection) (name : ℕ) (held : Units) (bases : List (Option ℕ)) → AreBasesHeld section name held bases → All (λ (base : Option ℕ). IfSome base (λ p. p < length section.parts)) bases
bases_inside section name held bases are =
    All-from_get_or (λ (base : Option ℕ). IfSome base (λ p. p < length section.parts)) bases None (λ u known. one (root_attributes (held_at held.units.items u).forest (declarations_of (table_held held u))) (get_or bases u None) (are.each u (subst (λ (z : ℕ). u < z) are.count known)))
  where
    one : (attributes : List (ℕ × Meaning)) (found : Option ℕ) → IsPartFound section attributes name found → IfSome found (λ p. p < length section.parts)
    one attributes (Some p) names = names.2.0
    one attributes None none = tt

-- WHAT VALUES REFER TO

-- the slot that an index counts in the contribution that a root names, or none
abbrev pub IsSlotFound : Linkable → ℕ → ListKind → ℕ → Option (ℕ × ℕ) → Type 0
IsSlotFound r u kind i found = MatchOption found ((p : ℕ) → IsBaseOf r u kind p → (part_at (of_kind r kind) p).slots ≤ i) (λ (s : ℕ × ℕ). IsBaseOf r u kind s.0 × (s.1 ≡ i))

-- a list can begin at a place, or none can
offset_list : (r : Linkable) (u id : ℕ) (kind : ListKind) (place p : ℕ) → IsListPlace (of_kind r kind) p place → IsFoundFor (OffsetLinks r u id (class_of kind) place) (Some (AtList kind place))
offset_list r u id Ranges place p here = (ListAt Ranges place, ((p, here), refl), refl)
offset_list r u id Locations place p here = (ListAt Locations place, ((p, here), refl), refl)

no_offset_list : (r : Linkable) (u id : ℕ) (kind : ListKind) (place : ℕ) → ((p : ℕ) → ¬ IsListPlace (of_kind r kind) p place) → IsFoundFor (OffsetLinks r u id (class_of kind) place) None
no_offset_list r u id Ranges place none = λ linked ((p, here), is). none p here
no_offset_list r u id Locations place none = λ linked ((p, here), is). none p here

-- offsets begin at a place, or none do
offset_base : (r : Linkable) (u id : ℕ) (kind : ListKind) (place p : ℕ) → IsOffsetsAt (of_kind r kind) place p → IsFoundFor (OffsetLinks r u id (base_class kind) place) (Some (Base kind p))
offset_base r u id Ranges place p here = (BaseOf Ranges p, (p, here, refl), refl)
offset_base r u id Locations place p here = (BaseOf Locations p, (p, here, refl), refl)

no_offset_base : (r : Linkable) (u id : ℕ) (kind : ListKind) (place : ℕ) → ((p : ℕ) → ¬ IsOffsetsAt (of_kind r kind) place p) → IsFoundFor (OffsetLinks r u id (base_class kind) place) None
no_offset_base r u id Ranges place none = λ linked (p, here, is). none p here
no_offset_base r u id Locations place none = λ linked (p, here, is). none p here

module _ (file : List ℕ) (r : Linkable) (parts : Parts) (holds : HoldsParts file r parts) (kind : ListKind) (held : Contributions) (same : held ≡ lists_in parts kind) where
  section_same : section_held held ≡ of_kind r kind
  section_same = ap section_held same ∙ holds.lists kind

  -- the place of a list
  pub list_link : (u id place p : ℕ) → IsListPlace (section_held held) p place → IsFoundFor (OffsetLinks r u id (class_of kind) place) (Some (AtList kind place))
  list_link u id place p here = offset_list r u id kind place p (subst (λ (z : ListSection). IsListPlace z p place) section_same here)

  pub no_list_link : (u id place : ℕ) → ((p : ℕ) → ¬ IsListPlace (section_held held) p place) → IsFoundFor (OffsetLinks r u id (class_of kind) place) None
  no_list_link u id place none = no_offset_list r u id kind place (subst (λ (z : ListSection). (p : ℕ) → ¬ IsListPlace z p place) section_same none)

  -- a contribution whose offsets begin at a place
  pub base_link : (u id place p : ℕ) → IsOffsetsAt (section_held held) place p → IsFoundFor (OffsetLinks r u id (base_class kind) place) (Some (Base kind p))
  base_link u id place p here = offset_base r u id kind place p (subst (λ (z : ListSection). IsOffsetsAt z place p) section_same here)

  pub no_base_at : (u id place : ℕ) → ((p : ℕ) → ¬ IsOffsetsAt (section_held held) place p) → IsFoundFor (OffsetLinks r u id (base_class kind) place) None
  no_base_at u id place none = no_offset_base r u id kind place (subst (λ (z : ListSection). (p : ℕ) → ¬ IsOffsetsAt z place p) section_same none)

  parts_are : (of_kind r kind).parts ≡ held.parts.items
  parts_are = ap (λ (z : ListSection). z.parts) (sym section_same)

  tiled : ContributionsTile (of_kind r kind).section (of_kind r kind).parts
  tiled = (holds.read.lists kind).tiled

  module _ (bases : List (Option ℕ)) (based_by : bases ≡ bases_in parts kind) (u : ℕ) (inside : u < length parts.units.units.items) where
    -- the base of a unit, as it is looked up
    base_found : IsBaseFound r u kind (get_or bases u None)
    base_found =
        let known : u < length r.units = subst (λ (z : ℕ). u < z) (parts_count file r parts holds) inside in
        subst (λ (z : List (Option ℕ)). IsBaseFound r u kind (get_or z u None)) (sym based_by) ((holds.bases kind).each u known)

    -- an index counts no slot where the root gives no base, or where it is wide
    pub no_base_slot : (i : ℕ) → get_or bases u None ≡ None → IsSlotFound r u kind i None
    no_base_slot i none = λ p base. absurd (subst (IsBaseFound r u kind) none base_found p base)

    pub wide_index : (i : ℕ) → 2 ^ 32 ≤ i → IsSlotFound r u kind i None
    wide_index i wide = λ p base. let few : (part_at (of_kind r kind) p).slots < 2 ^ 32 = slots_few (of_kind r kind).section (of_kind r kind).parts tiled p base.2.0 in omega arith

    module _ (p : ℕ) (some : get_or bases u None ≡ Some p) where
      pub based : IsBaseOf r u kind p
      based = subst (IsBaseFound r u kind) some base_found

      base_once : (q : ℕ) → IsBaseOf r u kind q → p ≡ q
      base_once q (m, is, there) =
          let one : m ≡ based.0 = one_base (root_of (unit_at r u)).attributes (base_of kind) m based.0 is based.1 in
          offsets_once (of_kind r kind).section (of_kind r kind).parts tiled based.0 p q based.2 (subst (λ (z : ℕ). IsOffsetsAt (of_kind r kind) z q) one there)

      -- nor does one past the slots
      pub past_slots : (i slot : ℕ) → slot ≡ i → (part_at (section_held held) p).slots ≤ slot → IsSlotFound r u kind i None
      past_slots i slot one past = λ q base.
          let there : (part_at (of_kind r kind) p).slots ≤ slot = subst (λ (z : ListSection). (part_at z p).slots ≤ slot) section_same past in
          subst (λ (z : ℕ). (part_at (of_kind r kind) z).slots ≤ i) (base_once q base) (subst (λ (z : ℕ). (part_at (of_kind r kind) p).slots ≤ z) one there)

  -- the slot that is found is what an index refers to
  pub slot_link : (u i p slot : ℕ) → IsBaseOf r u kind p → slot ≡ i → slot < (part_at (section_held held) p).slots → IsFoundFor (IndexLinks r u kind i) (Some (Slot kind p slot))
  slot_link u i p slot based one less =
      let there : slot < (part_at (of_kind r kind) p).slots = subst (λ (z : ListSection). slot < (part_at z p).slots) section_same less in
      (SlotAt kind p i, (p, based, subst (λ (z : ℕ). z < (part_at (of_kind r kind) p).slots) one there, refl), ap (λ (z : ℕ). Slot kind p z) one)

-- contributions are held where lists are
pub contributions_held : (parts : Parts) (kind : ListKind) → HoldsLists parts → AreContributions (lists_in parts kind)
contributions_held parts kind lists = record { tiled = lists.tiled kind; few = lists.few kind }

-- the contribution that a unit names is looked up, by the bases that are held
pub part_held : (parts : Parts) (kind : ListKind) → HoldsLists parts → (u p : ℕ) (bases : List (Option ℕ)) → bases ≡ bases_in parts kind → u < length parts.units.units.items → get_or bases u None ≡ Some p → (held : Contributions) → held ≡ lists_in parts kind → (part : Contribution) → part ≡ get_or held.parts.items p part → (part ≡ part_at (section_held (lists_in parts kind)) p) × (p < length (lists_in parts kind).parts.items)
part_held parts kind lists u p bases e inside some held same part at =
    let known : p < length (lists_in parts kind).parts.items = base_inside parts kind lists u p bases (lists_in parts kind) e refl inside some in
    let there : part ≡ get_or (lists_in parts kind).parts.items p part = subst (λ (z : Contributions). part ≡ get_or z.parts.items p part) same at in
    (part_is (lists_in parts kind).parts.items p part known there, known)
