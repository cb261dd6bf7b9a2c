-- Places of lists of a kind that slots and values name.
use Rattle.std.proofs.Common.{◌≡◌, ◌≢◌, ◌≤◌, ◌<◌, ◌+◌, ◌^◌, ◌++◌, ◌∙◌, inl, inr, ℕ, List, [], ◌∷◌, length, get_or, sym, ap, subst, refl, arith}
use Rattle.std.specs.Prelude.{Option, Some, None, IfSome, MatchOption}
use Rattle.std.proofs.lemmas.List.{get_or_default}
use Rattle.dw_base.specs.declared.fault.Kind.TheVariants.{Pointer}
use Rattle.dw_base.specs.Refusals.{IsFaultOf}
use Rattle.form_codec.specs.declared.value.Value.{Value}
use Rattle.form_codec.specs.declared.value.Value.TheVariants as value
use Rattle.form_codec.specs.Forms.Meaning.{SectionPlace}
use Rattle.form_codec.specs.Values.{meant_in}
use Rattle.list_model.specs.declared.entry.ListKind.{ListKind}
use Rattle.list_model.specs.declared.contribution.Contribution.{Contribution}
use Rattle.list_model.specs.declared.entry.ListKind.TheVariants.{Ranges, Locations}
use Rattle.list_model.specs.Contributions.{ContributionsTile, offset_place, offsets_at}
use Rattle.fixed_width.specs.Numbers.{number_at}
use Rattle.value_links.specs.Attributes.{OffsetClass, offset_class}
use Rattle.value_links.specs.Attributes.OffsetClass.{LinePtr, RngList, LocList, RngListsPtr, LocListsPtr, AddrPtr, StrOffsetsPtr, MacPtr, Views, NoOffset}
use Rattle.value_links.specs.Reading.{ListSection, Linkable, unit_at, of_kind, part_at}
use Rattle.value_links.specs.Values.{root_of}
use Rattle.value_links.specs.ListPlaces.{IsListPlace, IsOffsetsAt, SlotNames, base_of, IsBaseOf}
use Rattle.value_links.specs.Linked.{Linked, Links, IndexLinks, OffsetLinks, IsListAt}
use Rattle.value_links.specs.Linked.Linked.{ListAt, SlotAt}
use Rattle.value_links.specs.Lists.{LinkNames}
use Rattle.value_links.specs.inside.Namings.{slot_number, AreJoined, FaultSlots, class_of, index_meaning, IsIndexIn, CanName, IsPlaceNamed}
use Rattle.value_links.specs.declared.list_places.Contributions.{Contributions}
use Rattle.value_links.specs.declared.parts.Parts.{Parts}
use Rattle.value_links.specs.Parts.{HoldsLists, lists_in, bases_in}
use Rattle.value_links.proofs.Bases.{one_base}
use Rattle.value_links.proofs.PartPlaces.{offsets_once, slot_inside}
use Rattle.value_links.proofs.NamingLists.{joined_push, pair_is}

-- SLOTS

-- a slot tells one place
pub slot_once : (section : ListSection) (p i a b : ℕ) → SlotNames section p i a → SlotNames section p i b → a ≡ b
slot_once section p i a b (first, _) (second, _) = first.tells ∙ sym second.tells

-- a slot that names no list has a fault
pub slot_fault : (section : ListSection) (p i origin place : ℕ) → p < length section.parts → i < (part_at section p).slots → ((at : ℕ) → ¬ SlotNames section p i at) → place ≡ offset_place (part_at section p).at i → IsFaultOf (FaultSlots section) origin (record { kind = Pointer; place = origin + place })
slot_fault section p i origin place known counted none here =
    let at : ℕ = offsets_at (part_at section p).at + number_at 4 (offset_place (part_at section p).at i) section.section in
    (place, refl, (p, i, at, record { known = known; counted = counted; tells = refl }, none at, here))

-- BASES

-- a root names one contribution
pub base_once : (r : Linkable) (kind : ListKind) (u p q : ℕ) → ContributionsTile (of_kind r kind).section (of_kind r kind).parts → IsBaseOf r u kind p → IsBaseOf r u kind q → p ≡ q
base_once r kind u p q tiled (n, first, here) (m, other, there) =
    let section : ListSection = of_kind r kind in
    let same : n ≡ m = one_base (root_of (unit_at r u)).attributes (base_of kind) n m first other in
    offsets_once section.section section.parts tiled m p q (subst (λ (z : ℕ). IsOffsetsAt section z p) same here) there

-- INDEXES

-- an index of a list of a kind counts the slots of a contribution of this kind
index_links : (r : Linkable) (kind : ListKind) (u id name i : ℕ) (linked : Linked) → IndexLinks r u kind i linked → Links r u id name (index_meaning kind i) linked
index_links r Ranges u id name i linked links = links
index_links r Locations u id name i linked links = links

links_index : (r : Linkable) (kind : ListKind) (u id name i : ℕ) (linked : Linked) → Links r u id name (index_meaning kind i) linked → IndexLinks r u kind i linked
links_index r Ranges u id name i linked links = links
links_index r Locations u id name i linked links = links

module _ (r : Linkable) (kind : ListKind) (u id name i : ℕ) where
  -- what a link names that an index gives
  index_named : (linked : Linked) (at : ℕ) → IndexLinks r u kind i linked → LinkNames r linked kind at → (p : ℕ) × IsBaseOf r u kind p × (i < (part_at (of_kind r kind) p).slots) × SlotNames (of_kind r kind) p i at
  index_named linked at (p, base, counted, e) names = (p, base, counted, (subst (λ (z : Linked). LinkNames r z kind at) e names).1)

  pub index_place : (p at : ℕ) → ContributionsTile (of_kind r kind).section (of_kind r kind).parts → IsBaseOf r u kind p → i < (part_at (of_kind r kind) p).slots → SlotNames (of_kind r kind) p i at → IsPlaceNamed r kind u id name (index_meaning kind i) (Some at)
  index_place p at tiled base counted names = (
    (SlotAt kind p i, index_links r kind u id name i (SlotAt kind p i) (p, base, counted, refl), (refl, names)),
    λ other (linked, links, named).
        let (q, q_base, q_counted, there) = index_named linked other (links_index r kind u id name i linked links) named in
        let same : q ≡ p = base_once r kind u q p tiled q_base base in
        slot_once (of_kind r kind) p i other at (subst (λ (z : ℕ). SlotNames (of_kind r kind) z i other) same there) names,
  )

  -- it names nothing where no slot does that it may count
  pub index_nothing : ((p at : ℕ) → IsBaseOf r u kind p → i < (part_at (of_kind r kind) p).slots → ¬ SlotNames (of_kind r kind) p i at) → IsPlaceNamed r kind u id name (index_meaning kind i) None
  index_nothing none other (linked, links, named) =
      let (p, base, counted, there) = index_named linked other (links_index r kind u id name i linked links) named in
      none p other base counted there

-- SECTION OFFSETS

-- a section offset of lists of one kind names none of another
list_named : (r : Linkable) (kind of : ListKind) (n at : ℕ) (linked : Linked) → IsListAt r of n → linked ≡ ListAt of n → LinkNames r linked kind at → (class_of of ≡ class_of kind) × IsListAt r kind n × (at ≡ n)
list_named r kind of n at linked is e names =
    let (same, here) = subst (λ (z : Linked). LinkNames r z kind at) e names in
    (ap class_of (sym same), subst (λ (z : ListKind). IsListAt r z n) (sym same) is, here)

-- of the section offsets, those of lists of a kind name one, and it is theirs
offset_named : (r : Linkable) (kind : ListKind) (u id : ℕ) (class : OffsetClass) (n at : ℕ) (linked : Linked) → OffsetLinks r u id class n linked → LinkNames r linked kind at → (class ≡ class_of kind) × IsListAt r kind n × (at ≡ n)
offset_named r kind u id LinePtr n at linked (p, is, e) names = absurd (subst (λ (z : Linked). LinkNames r z kind at) e names)
offset_named r kind u id RngList n at linked (is, e) names = list_named r kind Ranges n at linked is e names
offset_named r kind u id LocList n at linked (is, e) names = list_named r kind Locations n at linked is e names
offset_named r kind u id RngListsPtr n at linked (p, is, e) names = absurd (subst (λ (z : Linked). LinkNames r z kind at) e names)
offset_named r kind u id LocListsPtr n at linked (p, is, e) names = absurd (subst (λ (z : Linked). LinkNames r z kind at) e names)
offset_named r kind u id AddrPtr n at linked (is, e) names = absurd (subst (λ (z : Linked). LinkNames r z kind at) e names)
offset_named r kind u id StrOffsetsPtr n at linked e names = absurd (subst (λ (z : Linked). LinkNames r z kind at) e names)
offset_named r kind u id MacPtr n at linked e names = absurd (subst (λ (z : Linked). LinkNames r z kind at) e names)
offset_named r kind u id Views n at linked (list, is, together, e) names = absurd (subst (λ (z : Linked). LinkNames r z kind at) e names)
offset_named r kind u id NoOffset n at linked none names = absurd none

-- a section offset of lists of a kind refers to the one at its place
offset_links : (r : Linkable) (kind : ListKind) (u id n : ℕ) → IsListAt r kind n → OffsetLinks r u id (class_of kind) n (ListAt kind n)
offset_links r Ranges u id n is = (is, refl)
offset_links r Locations u id n is = (is, refl)

module _ (r : Linkable) (kind : ListKind) (u id name n : ℕ) where
  pub offset_place_named : (p : ℕ) → offset_class name ≡ class_of kind → IsListPlace (of_kind r kind) p n → IsPlaceNamed r kind u id name (SectionPlace n) (Some n)
  offset_place_named p class begins = (
    (ListAt kind n, subst (λ (z : OffsetClass). OffsetLinks r u id z n (ListAt kind n)) (sym class) (offset_links r kind u id n (p, begins)), (refl, refl)),
    λ other (linked, links, named). (offset_named r kind u id (offset_class name) n other linked links named).2,
  )

  pub offset_nothing : (offset_class name ≡ class_of kind → ¬ IsListAt r kind n) → IsPlaceNamed r kind u id name (SectionPlace n) None
  offset_nothing none other (linked, links, named) =
      let there = offset_named r kind u id (offset_class name) n other linked links named in
      none there.0 there.1

-- OTHER VALUES

-- a value that is neither a section offset nor an index of a list of the kind names none
module _ (r : Linkable) (kind : ListKind) (u id name : ℕ) (section : List ℕ) where
  abbrev NamesNothing : Value → Type 0
  NamesNothing held = IsPlaceNamed r kind u id name (meant_in section held) None

  -- what is no index of one kind may be that of the other
  index_other : (of : ListKind) (i : ℕ) → ((n : ℕ) → index_meaning of i ≢ index_meaning kind n) → IsPlaceNamed r kind u id name (index_meaning of i) None
  index_other of i apart other (linked, links, named) =
      let (p, base, counted, e) = links_index r of u id name i linked links in
      let same : kind ≡ of = (subst (λ (z : Linked). LinkNames r z kind other) e named).0 in
      absurd (apart i (ap (λ (z : ListKind). index_meaning z i) (sym same)))

  pub other_nothing : (held : Value) → ((place : ℕ) → held ≢ value.Offset place) → IsIndexIn kind held None → NamesNothing held
  other_nothing (value.LocalRef n) plain none other ((linked, (target, is, e), named)) = absurd (subst (λ (z : Linked). LinkNames r z kind other) e named)
  other_nothing (value.SectionRef n) plain none other (linked, (unit, target, is, e), named) = absurd (subst (λ (z : Linked). LinkNames r z kind other) e named)
  other_nothing (value.Expr span) plain none other (linked, (operations, is, e), named) = absurd (subst (λ (z : Linked). LinkNames r z kind other) e named)
  other_nothing (value.Offset n) plain none other names = absurd (plain n refl)
  other_nothing (value.LocIndex i) plain none other names = index_other Locations i (none section) other names
  other_nothing (value.RangeIndex i) plain none other names = index_other Ranges i (none section) other names
  other_nothing held plain none other (linked, e, named) = absurd (subst (λ (z : Linked). LinkNames r z kind other) e named)

  -- so a value that can name no list of the kind names none
  pub cannot_name : (held : Value) → ((bytes : List ℕ) → ¬ CanName kind (meant_in bytes held)) → NamesNothing held
  cannot_name held none = other_nothing held (λ place e. none section (inl (place, ap (meant_in section) e))) (λ bytes i e. none bytes (inr (i, e)))

-- WHAT IS HELD

-- a base that is held names a contribution
pub base_inside : (parts : Parts) (kind : ListKind) → HoldsLists parts → (u p : ℕ) (bases : List (Option ℕ)) (held : Contributions) → bases ≡ bases_in parts kind → held ≡ lists_in parts kind → u < length parts.units.units.items → get_or bases u None ≡ Some p → p < length held.parts.items
base_inside parts kind lists u p bases held e same inside some =
    let counted : u < length (bases_in parts kind) = subst (λ (z : ℕ). u < z) (sym (lists.bases kind)) inside in
    let found : get_or (bases_in parts kind) u None ≡ Some p = ap (λ (z : List (Option ℕ)). get_or z u None) (sym e) ∙ some in
    let there : p < length (lists_in parts kind).parts.items = subst (λ (b : Option ℕ). IfSome b (λ q. q < length (lists_in parts kind).parts.items)) found (lists.inside kind u None counted) in
    subst (λ (z : Contributions). p < length z.parts.items) (sym same) there

-- so they fill their section
pub held_tiled : (parts : Parts) (kind : ListKind) → HoldsLists parts → (held : Contributions) → held ≡ lists_in parts kind → ContributionsTile held.section.now held.parts.items
held_tiled parts kind lists held same = subst (λ (z : Contributions). ContributionsTile z.section.now z.parts.items) (sym same) (lists.tiled kind)

-- the contribution with a number
pub part_is : (parts : List Contribution) (p : ℕ) (part : Contribution) → p < length parts → part ≡ get_or parts p part → part ≡ get_or parts p (record { at = 0; len = 0; slots = 0 })
part_is parts p part inside e = e ∙ get_or_default parts p part (record { at = 0; len = 0; slots = 0 }) inside

-- where one of its slots stands
pub slot_room : (section : ListSection) (p i origin : ℕ) → ContributionsTile section.section section.parts → p < length section.parts → i < (part_at section p).slots → origin + length section.section < 2 ^ 64 → origin + offset_place (part_at section p).at i < 2 ^ 64
slot_room section p i origin tiled inside counted room =
    let lies : offset_place (part_at section p).at i + 4 ≤ length section.section = slot_inside section.section section.parts tiled p i inside counted in
    omega arith

-- what a slot names is added
pub slot_joined : (section : ListSection) (p i at : ℕ) (xs ys : List (ℕ × ℕ)) → ys ≡ xs ++ (at, slot_number) ∷ [] → SlotNames section p i at → AreJoined xs ys (λ y. SlotNames section p i y.0 × (y.1 ≡ slot_number))
slot_joined section p i at xs ys e names = joined_push xs ys (at, slot_number) (λ y. SlotNames section p i y.0 × (y.1 ≡ slot_number)) e (names, refl) (λ y (there, of). pair_is y at slot_number (slot_once section p i y.0 at there names) of)

-- what a slot names, or nothing
abbrev pub IsSlotNamed : ListSection → ℕ → ℕ → Option ℕ → Type 0
IsSlotNamed section p i found = MatchOption found ((at : ℕ) → ¬ SlotNames section p i at) (SlotNames section p i)

module _ (r : Linkable) (kind : ListKind) (u id name i : ℕ) where
  -- an index names what the slot does that it counts
  pub index_found : (section : ListSection) → section ≡ of_kind r kind → ContributionsTile section.section section.parts → (p slot : ℕ) → IsBaseOf r u kind p → slot ≡ i → slot < (part_at section p).slots → (found : Option ℕ) → IsSlotNamed section p slot found → IsPlaceNamed r kind u id name (index_meaning kind i) found
  index_found section same tiled p slot based one counted found is = answer found named
    where
      tiled_there : ContributionsTile (of_kind r kind).section (of_kind r kind).parts
      tiled_there = subst (λ (z : ListSection). ContributionsTile z.section z.parts) same tiled

      named : IsSlotNamed (of_kind r kind) p i found
      named = subst (λ (n : ℕ). IsSlotNamed (of_kind r kind) p n found) one (subst (λ (z : ListSection). IsSlotNamed z p slot found) same is)

      answer : (found : Option ℕ) → IsSlotNamed (of_kind r kind) p i found → IsPlaceNamed r kind u id name (index_meaning kind i) found
      answer (Some at) names = index_place r kind u id name i p at tiled_there based (subst (λ (n : ℕ). n < (part_at (of_kind r kind) p).slots) one (subst (λ (z : ListSection). slot < (part_at z p).slots) same counted)) names
      answer None none = index_nothing r kind u id name i (λ q at other counts names. none at (subst (λ (z : ℕ). SlotNames (of_kind r kind) z i at) (base_once r kind u q p tiled_there other based) names))
