-- The value with a number refers to one thing, and has one link.
use Rattle.std.proofs.Common.{◌≡◌, ◌<◌, ◌+◌, ◌-◌, ◌∙◌, inl, inr, ℕ, length, sym, ap, subst, arith}
use Rattle.std.proofs.lemmas.Bool.{cases_lt}
use Rattle.std.proofs.lemmas.List.{get_or_past}
use Rattle.form_codec.specs.Forms.{Meaning}
use Rattle.form_codec.specs.Values.{meant_in}
use Rattle.abbrev_tables.specs.Listings.{spec_at}
use Rattle.entry_arena.specs.Arena.{value_at}
use Rattle.entry_read.specs.Places.{HaveOwners}
use Rattle.value_links.specs.declared.link.Link.{Link}
use Rattle.value_links.specs.declared.link.Link.TheVariants.{Plain, Place, Lines, List as AtList, Slot, Base, Views, Kept as KeptPlace}
use Rattle.value_links.specs.Sections.{debug_info, debug_abbrev}
use Rattle.value_links.specs.Reading.{UnitRead, Linkable, no_unit, declarations, unit_at}
use Rattle.value_links.specs.Values.{entry_of, declaration_of, HasValueAt}
use Rattle.value_links.specs.inside.Values.{meaning_at}
use Rattle.value_links.specs.Linked.{Linked, Links}
use Rattle.value_links.specs.Linked.Linked.{Itself, Operates, Refers, Program, ListAt, SlotAt, BaseOf, ViewsAt, Kept}
use Rattle.value_links.specs.Links.{IsLinkOf, IsFollowed}
use Rattle.value_links.specs.inside.Owners.{IsOwner, name_with}
use Rattle.value_links.specs.Laws.{OneLinkedValue, OneLink}
use Rattle.value_links.proofs.HeldUnits.{unit_owners}
use Rattle.value_links.proofs.EntryValues.{column_of, column_numbered}
use Rattle.value_links.proofs.LinkedOnce.{slot_once, linked_once}
use Rattle.value_links.proofs.Owning.{owner_once}

-- the number of a value tells its entry, the name of its attribute and what it says
record IsByNumber (unit : UnitRead) (id number name : ℕ) (meaning : Meaning) : Type 0 where
  owner : IsOwner unit.forest.entries id number
  named : name ≡ name_with (declarations unit) (entry_of unit id) number
  meant : meaning ≡ meaning_at unit number

by_number : (unit : UnitRead) → HaveOwners (declarations unit) unit.forest → (id number name : ℕ) (meaning : Meaning) (place : ℕ) → HasValueAt unit id number name meaning place → IsByNumber unit id number name meaning
by_number unit owned id number name meaning place h =
    let (k, inside, named, meant) = column_of unit owned id h.known number name meaning place h in
    let same : number ≡ (entry_of unit id).first + k = column_numbered unit owned id h.known number name meaning place h in
    let column : k ≡ number - (entry_of unit id).first = omega arith in
    record {
      owner = record { known = h.known; from = omega arith; to = omega arith };
      named = named ∙ ap (λ (z : ℕ). (spec_at (declaration_of unit id).columns z).name) column;
      meant = meant ∙ ap (λ (z : ℕ). meant_in unit.forest.section (value_at unit.forest.values z)) (sym same);
    }

-- a unit with an entry is one of those that were read
known_unit : (r : Linkable) (u id : ℕ) → id < length (unit_at r u).forest.entries → u < length r.units
known_unit r u id known = elim (cases_lt u (length r.units)) [
  | inl inside ↦ inside
  | inr past ↦
      let none : unit_at r u ≡ no_unit = get_or_past r.units u no_unit past in
      let empty : id < 0 = subst (λ (z : UnitRead). id < length z.forest.entries) none known in
      absurd (omega arith)
]

pub linked_value_once : OneLinkedValue
linked_value_once file r u number v w read a b =
    let unit = unit_at r u in
    let known : u < length r.units = known_unit r u a.id a.stands.known in
    let owned = unit_owners (debug_info file) (debug_abbrev file) r.units read.units u known in
    let one = by_number unit owned a.id number a.name a.meaning a.place a.stands in
    let other = by_number unit owned b.id number b.name b.meaning b.place b.stands in
    let id : a.id ≡ b.id = owner_once (declarations unit) unit.forest owned a.id b.id number one.owner other.owner in
    let name : a.name ≡ b.name = one.named ∙ ap (λ (z : ℕ). name_with (declarations unit) (entry_of unit z) number) id ∙ sym other.named in
    let meaning : a.meaning ≡ b.meaning = one.meant ∙ sym other.meant in
    let moved : Links r u b.id b.name b.meaning v = subst (λ (z : ℕ). Links r u z b.name b.meaning v) id (subst (λ (z : ℕ). Links r u a.id z b.meaning v) name (subst (λ (z : Meaning). Links r u a.id a.name z v) meaning a.links)) in
    linked_once file r u b.id b.name b.meaning v w read known moved b.links

-- one link tells what a value refers to
told_once : (linked : Linked) (a b : Link) → IsLinkOf linked a → IsLinkOf linked b → a ≡ b
told_once (Itself meaning) a b e f = e ∙ sym f
told_once (Operates operations) a b e f = e ∙ sym f
told_once (Refers unit target) a b e f = e ∙ sym f
told_once (Program program) a b e f = e ∙ sym f
told_once (ListAt kind place) a b e f = e ∙ sym f
told_once (SlotAt kind part slot) a b e f = e ∙ sym f
told_once (BaseOf kind part) a b e f = e ∙ sym f
told_once (ViewsAt list place) a b e f = e ∙ sym f
told_once (Kept place) a b e f = e ∙ sym f

-- and it is followed to one
followed_once : (r : Linkable) (told a b : Link) → IsFollowed r told a → IsFollowed r told b → a ≡ b
followed_once r (Slot kind part slot) a b (x, here, e) (y, there, f) = e ∙ ap (λ (z : ℕ). AtList kind z) (slot_once r kind part slot x y here there) ∙ sym f
followed_once r Plain a b e f = e ∙ sym f
followed_once r (Place unit target) a b e f = e ∙ sym f
followed_once r (Lines program) a b e f = e ∙ sym f
followed_once r (AtList kind place) a b e f = e ∙ sym f
followed_once r (Base kind part) a b e f = e ∙ sym f
followed_once r (Views list place) a b e f = e ∙ sym f
followed_once r (KeptPlace place) a b e f = e ∙ sym f

pub link_once : OneLink
link_once file r u number a b read (v, s, here, told, followed) (w, t, there, other, behind) =
    let same : v ≡ w = linked_value_once file r u number v w read here there in
    let one : s ≡ t = told_once w s t (subst (λ (z : Linked). IsLinkOf z s) same told) other in
    followed_once r t a b (subst (λ (z : Link). IsFollowed r z a) one followed) behind
