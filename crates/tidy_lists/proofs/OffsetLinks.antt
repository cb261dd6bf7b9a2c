-- Values that name lists and runs of view pairs by their places: they are offsets into sections, and a link tells what such a value names.
use Rattle.std.proofs.Common.{◌≡◌, ◌≤◌, ◌<◌, ◌+◌, ◌∙◌, inl, inr, ℕ, List, length, sym, ap, subst, refl, true≢false, arith}
use Rattle.std.specs.Prelude.{Bool, true, false, ◌↔◌}
use Rattle.std.proofs.lemmas.Bool.{cases_lt}
use Rattle.std.proofs.lemmas.List.{get_or_past}
use Rattle.form_codec.specs.declared.value.Value.{Value}
use Rattle.form_codec.specs.declared.value.Value.TheVariants as value
use Rattle.form_codec.specs.Forms.{Meaning}
use Rattle.form_codec.specs.Forms.Meaning.{Expression, InUnit, InSection, SectionPlace, LocationList, RangeList}
use Rattle.form_codec.specs.Values.{meant_in}
use Rattle.entry_arena.specs.Arena.{value_at}
use Rattle.list_model.specs.declared.entry.ListKind.{ListKind}
use Rattle.value_links.specs.declared.link.Link.{Link}
use Rattle.value_links.specs.Sections.{debug_info, debug_abbrev}
use Rattle.value_links.specs.Attributes.{OffsetClass, offset_class}
use Rattle.value_links.specs.Attributes.OffsetClass.{LinePtr, RngList, LocList, RngListsPtr, LocListsPtr, AddrPtr, StrOffsetsPtr, MacPtr, Views, NoOffset}
use Rattle.value_links.specs.Reading.{UnitRead, Linkable, Reading, no_unit, unit_at, lists_of, list_at, view_at}
use Rattle.value_links.specs.Values.{entry_of}
use Rattle.value_links.specs.Whole.{IsReadToLinks, IsReading}
use Rattle.value_links.specs.Linked.{Linked, OffsetLinks, Links, IsLinked}
use Rattle.value_links.specs.Linked.Linked.{Itself, Operates, Refers, Program, ListAt, SlotAt, BaseOf, ViewsAt, Kept}
use Rattle.value_links.specs.Links.{IsLinkOf, IsFollowed, HasLink}
use Rattle.value_links.specs.Lists.{IsNamedIn, AreViewsNamed}
use Rattle.value_links.proofs.HeldUnits.{unit_owners}
use Rattle.value_links.proofs.EntryValues.{column_of, column_numbered}
use Rattle.value_links.proofs.LinksOnce.{linked_value_once}
use Rattle.tidy_lists.specs.declared.followers.named.Sought.{Sought}
use Rattle.tidy_lists.specs.declared.followers.named.Sought.TheVariants.{Lists, Runs}
use Rattle.tidy_lists.specs.inside.NamedNumbers.{linked_to, link_to, IsThere, IsToldBy, IsNamedBy}

-- A VALUE THAT IS LINKED

-- a unit with an entry is one of those that were read
known_unit : (r : Linkable) (u id : ℕ) → id < length (unit_at r u).forest.entries → u < length r.units
known_unit r u id known = elim (cases_lt u (length r.units)) [
  | inl inside ↦ inside
  | inr past ↦
      let none : unit_at r u ≡ no_unit = get_or_past r.units u no_unit past in
      let empty : id < 0 = subst (λ (z : UnitRead). id < length z.forest.entries) none known in
      absurd (omega arith)
]

module _ (file : List ℕ) (r : Linkable) (read : IsReadToLinks file r) (u number : ℕ) (linked : Linked) (is : IsLinked r u number linked) where
  -- it is one of a unit that was read
  pub unit_known : u < length r.units
  unit_known = known_unit r u is.id is.stands.known

  -- and it is held by its number
  record IsHeld : Type 0 where
    inside : number < length (unit_at r u).forest.values
    meant : is.meaning ≡ meant_in (unit_at r u).forest.section (value_at (unit_at r u).forest.values number)

  held : IsHeld
  held =
      let unit = unit_at r u in
      let owned = unit_owners (debug_info file) (debug_abbrev file) r.units read.units u unit_known in
      let (k, below, named, meant) = column_of unit owned is.id is.stands.known number is.name is.meaning is.place is.stands in
      let same : number ≡ (entry_of unit is.id).first + k = column_numbered unit owned is.id is.stands.known number is.name is.meaning is.place is.stands in
      let within : (entry_of unit is.id).first + (entry_of unit is.id).count ≤ length unit.forest.values = owned.inside is.id is.stands.known in
      record {
        inside = omega arith;
        meant = meant ∙ ap (λ (z : ℕ). meant_in unit.forest.section (value_at unit.forest.values z)) (sym same);
      }

  pub number_known : number < length (unit_at r u).forest.values
  number_known = held.inside

-- WHICH VALUES NAME PLACES

abbrev is_offset : Value → Bool
is_offset (value.Offset n) = true
is_offset v = false

abbrev is_place : Meaning → Bool
is_place (SectionPlace n) = true
is_place meaning = false

offset_is_place : (section : List ℕ) (v : Value) → is_place (meant_in section v) ≡ is_offset v
offset_is_place section (value.Offset n) = refl
offset_is_place section v = refl

-- whether a value refers to a list or view pairs by their places, and whether to a slot
abbrev names_place : Linked → Bool
names_place (ListAt kind at) = true
names_place (ViewsAt list at) = true
names_place linked = false

abbrev names_slot : Linked → Bool
names_slot (SlotAt kind p i) = true
names_slot linked = false

-- only an offset names a place
place_of_offset : (r : Linkable) (u id name : ℕ) (meaning : Meaning) (linked : Linked) → Links r u id name meaning linked → names_place linked ≡ true → is_place meaning ≡ true
place_of_offset r u id name (SectionPlace n) linked links place = refl
place_of_offset r u id name (InUnit n) linked (target, is, e) place = absurd (true≢false (sym place ∙ ap names_place e))
place_of_offset r u id name (InSection n) linked (unit, target, is, e) place = absurd (true≢false (sym place ∙ ap names_place e))
place_of_offset r u id name (LocationList i) linked (p, base, less, e) place = absurd (true≢false (sym place ∙ ap names_place e))
place_of_offset r u id name (RangeList i) linked (p, base, less, e) place = absurd (true≢false (sym place ∙ ap names_place e))
place_of_offset r u id name (Expression bytes) linked (operations, is, e) place = absurd (true≢false (sym place ∙ ap names_place e))
place_of_offset r u id name meaning linked e place = absurd (true≢false (sym place ∙ ap names_place e))

-- and it names no slot
no_slot_by_class : (r : Linkable) (u id : ℕ) (class : OffsetClass) (n : ℕ) (linked : Linked) → OffsetLinks r u id class n linked → names_slot linked ≡ false
no_slot_by_class r u id LinePtr n linked (p, is, e) = ap names_slot e
no_slot_by_class r u id RngList n linked (is, e) = ap names_slot e
no_slot_by_class r u id LocList n linked (is, e) = ap names_slot e
no_slot_by_class r u id RngListsPtr n linked (p, is, e) = ap names_slot e
no_slot_by_class r u id LocListsPtr n linked (p, is, e) = ap names_slot e
no_slot_by_class r u id AddrPtr n linked (is, e) = ap names_slot e
no_slot_by_class r u id StrOffsetsPtr n linked e = ap names_slot e
no_slot_by_class r u id MacPtr n linked e = ap names_slot e
no_slot_by_class r u id Views n linked (list, is, together, e) = ap names_slot e
no_slot_by_class r u id NoOffset n linked none = absurd none

no_slot : (r : Linkable) (u id name : ℕ) (meaning : Meaning) (linked : Linked) → is_place meaning ≡ true → Links r u id name meaning linked → names_slot linked ≡ false
no_slot r u id name (SectionPlace n) linked place links = no_slot_by_class r u id (offset_class name) n linked links
no_slot r u id name meaning linked place links = absurd (true≢false (sym place))

-- where no slot is told, a link is followed to itself
not_followed : (r : Linkable) (linked : Linked) (told link : Link) → names_slot linked ≡ false → IsLinkOf linked told → IsFollowed r told link → IsLinkOf linked link
not_followed r (Itself meaning) told link none e followed = subst (λ (z : Link). IsFollowed r z link) e followed
not_followed r (Operates operations) told link none e followed = subst (λ (z : Link). IsFollowed r z link) e followed
not_followed r (Refers unit target) told link none e followed = subst (λ (z : Link). IsFollowed r z link) e followed
not_followed r (Program p) told link none e followed = subst (λ (z : Link). IsFollowed r z link) e followed
not_followed r (ListAt kind place) told link none e followed = subst (λ (z : Link). IsFollowed r z link) e followed
not_followed r (SlotAt kind p i) told link none e followed = absurd (true≢false none)
not_followed r (BaseOf kind p) told link none e followed = subst (λ (z : Link). IsFollowed r z link) e followed
not_followed r (ViewsAt list place) told link none e followed = subst (λ (z : Link). IsFollowed r z link) e followed
not_followed r (Kept place) told link none e followed = subst (λ (z : Link). IsFollowed r z link) e followed

-- WHAT A LINK TELLS

-- a value that has the link of a list or of view pairs refers to these
link_tells : (sought : Sought) (r : Reading) (k : ℕ) (linked : Linked) (link : Link) → IsLinkOf linked link → link ≡ link_to sought r k → linked ≡ linked_to sought r k
link_tells (Lists kind) r k (Itself meaning) link e f = absurd (cc (e, f))
link_tells (Lists kind) r k (Operates operations) link e f = absurd (cc (e, f))
link_tells (Lists kind) r k (Refers unit target) link e f = absurd (cc (e, f))
link_tells (Lists kind) r k (Program p) link e f = absurd (cc (e, f))
link_tells (Lists kind) r k (ListAt of at) link e f =
    let place : ℕ = (list_at (lists_of r kind) k).at in
    let kinds : of ≡ kind = cc (e, f) in
    let places : at ≡ place = cc (e, f) in
    ap (λ (z : ListKind). ListAt z at) kinds ∙ ap (λ (z : ℕ). ListAt kind z) places
link_tells (Lists kind) r k (SlotAt of p i) link e f = absurd (cc (e, f))
link_tells (Lists kind) r k (BaseOf of p) link e f = absurd (cc (e, f))
link_tells (Lists kind) r k (ViewsAt list at) link e f = absurd (cc (e, f))
link_tells (Lists kind) r k (Kept n) link e f = absurd (cc (e, f))
link_tells Runs r k (Itself meaning) link e f = absurd (cc (e, f))
link_tells Runs r k (Operates operations) link e f = absurd (cc (e, f))
link_tells Runs r k (Refers unit target) link e f = absurd (cc (e, f))
link_tells Runs r k (Program p) link e f = absurd (cc (e, f))
link_tells Runs r k (ListAt of at) link e f = absurd (cc (e, f))
link_tells Runs r k (SlotAt of p i) link e f = absurd (cc (e, f))
link_tells Runs r k (BaseOf of p) link e f = absurd (cc (e, f))
link_tells Runs r k (ViewsAt list at) link e f =
    let with : list ≡ (view_at r.views k).list = cc (e, f) in
    let place : at ≡ (view_at r.views k).at = cc (e, f) in
    ap (λ (z : ℕ). ViewsAt z at) with ∙ ap (λ (z : ℕ). ViewsAt (view_at r.views k).list z) place
link_tells Runs r k (Kept n) link e f = absurd (cc (e, f))

link_told : (sought : Sought) (r : Reading) (k : ℕ) (link : Link) → IsLinkOf (linked_to sought r k) link → link ≡ link_to sought r k
link_told (Lists kind) r k link e = e
link_told Runs r k link e = e

names_some_place : (sought : Sought) (r : Reading) (k : ℕ) → names_place (linked_to sought r k) ≡ true
names_some_place (Lists kind) r k = refl
names_some_place Runs r k = refl

-- what a link tells was read
there : (file : List ℕ) (r : Reading) → IsReading file r → (u number : ℕ) → u < length r.links.units → (linked : Linked) (link : Link) → IsLinked r.links u number linked → IsLinkOf linked link → names_slot linked ≡ false → IsThere r link
there file r read u number known (Itself meaning) link is e none = subst (IsThere r) (sym e) tt
there file r read u number known (Operates operations) link is e none = subst (IsThere r) (sym e) tt
there file r read u number known (Refers unit target) link is e none = subst (IsThere r) (sym e) tt
there file r read u number known (Program p) link is e none = subst (IsThere r) (sym e) tt
there file r read u number known (ListAt kind at) link is e none =
    let named : IsNamedIn r.links kind at u = record { known = known; number = number; linked = ListAt kind at; links = is; names = (refl, refl) } in
    let (k, inside, here) = (read.lists kind).all at (inl (u, named)) in
    subst (IsThere r) (sym e) (k, (inside, here))
there file r read u number known (SlotAt kind p i) link is e none = absurd (true≢false none)
there file r read u number known (BaseOf kind p) link is e none = subst (IsThere r) (sym e) tt
there file r read u number known (ViewsAt list at) link is e none =
    let named : AreViewsNamed r.links list at = (u, number, known, is) in
    let (k, inside, with, here) = read.views.all list at named in
    subst (IsThere r) (sym e) (k, (inside, with, here))
there file r read u number known (Kept n) link is e none = subst (IsThere r) (sym e) tt

-- THE LINK OF A VALUE

module _ (file : List ℕ) (r : Reading) (read : IsReading file r) (u number : ℕ) (sought : Sought) where
  -- a value that is no offset names nothing
  pub other_names_nothing : ((n : ℕ) → value_at (unit_at r.links u).forest.values number ≡ value.Offset n → ⊥) → (k : ℕ) → IsNamedBy sought r u number k → ⊥
  other_names_nothing other k (inside, is) =
      let place : is_place is.meaning ≡ true = place_of_offset r.links u is.id is.name is.meaning (linked_to sought r k) is.links (names_some_place sought r k) in
      let section : List ℕ = (unit_at r.links u).forest.section in
      let v : Value = value_at (unit_at r.links u).forest.values number in
      let h = held file r.links read.links u number (linked_to sought r k) is in
      let offset : is_offset v ≡ true = sym (offset_is_place section v) ∙ ap is_place (sym h.meant) ∙ place in
      no_offset v other offset
    where
      no_offset : (v : Value) → ((n : ℕ) → v ≡ value.Offset n → ⊥) → is_offset v ≡ true → ⊥
      no_offset (value.Offset n) none e = none n refl
      no_offset v none e = true≢false (sym e)

  module _ (n : ℕ) (offset : value_at (unit_at r.links u).forest.values number ≡ value.Offset n) (link : Link) (has : HasLink r.links u number link) where
    is_linked : IsLinked r.links u number has.0
    is_linked = has.2

    plain : names_slot has.0 ≡ false
    plain =
        let h = held file r.links read.links u number has.0 is_linked in
        let section : List ℕ = (unit_at r.links u).forest.section in
        let place : is_place is_linked.meaning ≡ true = ap is_place h.meant ∙ ap (λ (z : Value). is_place (meant_in section z)) offset in
        no_slot r.links u is_linked.id is_linked.name is_linked.meaning has.0 place is_linked.links

    tells : IsLinkOf has.0 link
    tells = not_followed r.links has.0 has.1 link plain has.3 has.4

    pub link_there : IsThere r link
    link_there = there file r read u number (unit_known file r.links read.links u number has.0 is_linked) has.0 link is_linked tells plain

    -- an offset names what its link tells
    pub told_is_named : (k : ℕ) → IsToldBy sought r link k ↔ IsNamedBy sought r u number k
    told_is_named k = (
      λ (inside, e). (inside, subst (IsLinked r.links u number) (link_tells sought r k has.0 link tells e) is_linked),
      λ (inside, is). (inside, link_told sought r k link (subst (λ (z : Linked). IsLinkOf z link) (linked_value_once file r.links u number has.0 (linked_to sought r k) read.links is_linked is) tells)),
    )
