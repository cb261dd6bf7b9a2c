-- Slots that links tell and the lists that they name, and lists that are found by their places, in what is held.
use Rattle.std.proofs.Common.{◌≡◌, ◌<◌, ◌∙◌, inl, inr, ℕ, List, [], length, get_or, sym, ap, subst, refl, arith}
use Rattle.std.specs.Prelude.{Some, ◌↔◌}
use Rattle.std.specs.List.{Contains}
use Rattle.std.proofs.lemmas.Bool.{cases_lt, cases_eq}
use Rattle.std.proofs.lemmas.List.{get_or_default}
use Rattle.form_codec.specs.Forms.{Meaning}
use Rattle.list_model.specs.declared.entry.ListKind.{ListKind}
use Rattle.list_model.specs.declared.item.Meaning.{Meaning as HeldMeaning}
use Rattle.list_model.specs.declared.item.Meaning.TheVariants.{Live, Dead}
use Rattle.value_links.specs.declared.link.Link.{Link}
use Rattle.value_links.specs.declared.link.Link.TheVariants.{Plain, Place, Lines, List as AtList, Slot, Base, Views, Kept as KeptPlace}
use Rattle.list_arena.specs.Held.{HeldList, AreListsApart}
use Rattle.value_links.specs.declared.parts.Parts.{Parts}
use Rattle.value_links.specs.Reading.{ListSection, ListRead, Linkable, Reading, lists_of, of_kind, list_at, part_at}
use Rattle.value_links.specs.ListPlaces.{IsSlot, SlotNames}
use Rattle.value_links.specs.Linked.Linked.{Itself, Operates, Refers, Program, ListAt, SlotAt, BaseOf, ViewsAt, Kept}
use Rattle.value_links.specs.Lists.{IsFrozen, AreListsOf}
use Rattle.value_links.specs.Links.{IsFollowed, IsLinkFound}
use Rattle.value_links.specs.Parts.{section_held, lists_in}
use Rattle.value_links.specs.World.{World, lists_held, HoldsMeaning, HoldsList, HoldLists, Holds}
use Rattle.value_links.specs.inside.World.{IsHeldIn}
use Rattle.value_links.proofs.ValidLists.{slot_linked}
use Rattle.value_links.proofs.HeldLinks.{world_alike}

-- SLOTS

-- each slot names a list
abbrev SlotsName : Linkable → Type 0
SlotsName r = (kind : ListKind) (p i : ℕ) → p < length (of_kind r kind).parts → i < (part_at (of_kind r kind) p).slots → (at : ℕ) × SlotNames (of_kind r kind) p i at

slot_followed : (r : Linkable) → SlotsName r → (kind : ListKind) (p i : ℕ) → p < length (of_kind r kind).parts → i < (part_at (of_kind r kind) p).slots → (to : Link) × IsFollowed r (Slot kind p i) to
slot_followed r slots kind p i known counted =
    let (at, named) = slots kind p i known counted in
    (AtList kind at, (at, named, refl))

-- so what a link tells can be followed
pub can_follow : (r : Linkable) → SlotsName r → (u id name : ℕ) (meaning : Meaning) (told : Link) → IsLinkFound r u id name meaning (Some told) → (to : Link) × IsFollowed r told to
can_follow r slots u id name meaning told (Itself own, links, is) = (Plain, subst (λ (z : Link). IsFollowed r z Plain) (sym is) refl)
can_follow r slots u id name meaning told (Operates operations, links, is) = (Plain, subst (λ (z : Link). IsFollowed r z Plain) (sym is) refl)
can_follow r slots u id name meaning told (Refers unit target, links, is) = (Place unit target, subst (λ (z : Link). IsFollowed r z (Place unit target)) (sym is) refl)
can_follow r slots u id name meaning told (Program p, links, is) = (Lines p, subst (λ (z : Link). IsFollowed r z (Lines p)) (sym is) refl)
can_follow r slots u id name meaning told (ListAt kind at, links, is) = (AtList kind at, subst (λ (z : Link). IsFollowed r z (AtList kind at)) (sym is) refl)
can_follow r slots u id name meaning told (SlotAt kind p i, links, is) =
    let slot = slot_linked r u id name meaning kind p i links in
    let (to, followed) = slot_followed r slots kind p i slot.known slot.counted in
    (to, subst (λ (z : Link). IsFollowed r z to) (sym is) followed)
can_follow r slots u id name meaning told (BaseOf kind p, links, is) = (Base kind p, subst (λ (z : Link). IsFollowed r z (Base kind p)) (sym is) refl)
can_follow r slots u id name meaning told (ViewsAt list n, links, is) = (Views list n, subst (λ (z : Link). IsFollowed r z (Views list n)) (sym is) refl)
can_follow r slots u id name meaning told (Kept n, links, is) = (KeptPlace n, subst (λ (z : Link). IsFollowed r z (KeptPlace n)) (sym is) refl)

-- what a slot tells in what is held is the list that it names
module _ (world : World) (parts : Parts) (held : IsHeldIn world.image parts world) (kind : ListKind) (p i at : ℕ) (told : IsSlot (section_held (lists_in parts kind)) p i at) where
  slot_followed_held : (file : List ℕ) (r : Reading) → Holds file world r → (there : ℕ) → SlotNames (of_kind r.links kind) p i there → IsFollowed r.links (Slot kind p i) (AtList kind at)
  slot_followed_held file r holds there named =
      let same : section_held (lists_in parts kind) ≡ of_kind r.links kind = held.parts_are.lists kind ∙ (world_alike world held.reach held.is file r holds).lists kind in
      let slot : IsSlot (of_kind r.links kind) p i at = subst (λ (z : ListSection). IsSlot z p i at) same told in
      let here : there ≡ at = named.0.tells ∙ sym slot.tells in
      (at, subst (λ (n : ℕ). SlotNames (of_kind r.links kind) p i n) here named, refl)

  pub slot_follows : (file other : List ℕ) (r s : Reading) → Holds file world r → Holds other world s → (to : Link) → IsFollowed s.links (Slot kind p i) to → IsFollowed r.links (Slot kind p i) (AtList kind at)
  slot_follows file other r s holds own to (there, named, is) = slot_followed_held file r holds there (subst (λ (z : ListSection). SlotNames z p i there) alike named)
    where
      alike : of_kind s.links kind ≡ of_kind r.links kind
      alike = sym ((world_alike world held.reach held.is other s own).lists kind) ∙ (world_alike world held.reach held.is file r holds).lists kind

-- FROZEN LISTS

-- lists are held by rising place
pub lists_apart : (r : Linkable) (kind : ListKind) (lists : List ListRead) (held : List HeldList) → AreListsOf r kind lists → HoldLists r kind lists held → AreListsApart held
lists_apart r kind lists held are holds i j d less inside =
    let count : length held ≡ length lists = holds.count in
    let lower : (get_or held i d).at ≡ (list_at lists i).at = (holds.each i d (omega arith)).at in
    let higher : (get_or held j d).at ≡ (list_at lists j).at = (holds.each j d (omega arith)).at in
    let rising : (list_at lists i).at < (list_at lists j).at = are.rising i j less (omega arith) in
    omega arith

one_place : (held : List HeldList) (d : HeldList) → AreListsApart held → (i j : ℕ) → i < length held → j < length held → (get_or held i d).at ≡ (get_or held j d).at → i ≡ j
one_place held d apart i j i_in j_in same = elim (cases_eq i j) [
  | inl is ↦ is
  | inr other ↦ elim (cases_lt i j) [
    | inl less ↦ let rising : (get_or held i d).at < (get_or held j d).at = apart i j d less j_in in absurd (omega arith)
    | inr more ↦ let rising : (get_or held j d).at < (get_or held i d).at = apart j i d (omega (arith, other, more)) i_in in absurd (omega arith)
  ]
]

-- the list at a place is held with its meaning
held_means : (r : Linkable) (kind : ListKind) (lists : List ListRead) (held : List HeldList) → HoldLists r kind lists held → AreListsApart held → (list : ListRead) → Contains lists list → (i : ℕ) (d : HeldList) → i < length held → (get_or held i d).at ≡ list.at → HoldsMeaning r kind list (get_or held i d).owner (get_or held i d).meaning
held_means r kind lists held holds apart list (k, k_in, is) i d inside here =
    let one : list_at lists k ≡ list = get_or_default lists k (record { at = 0; part = 0; raws = [] }) list k_in ∙ is in
    let h : HoldsList r kind (list_at lists k) (get_or held k d) = holds.each k d k_in in
    let count : length held ≡ length lists = holds.count in
    let place : (get_or held k d).at ≡ (get_or held i d).at = h.at ∙ ap (λ (z : ListRead). z.at) one ∙ sym here in
    let same : k ≡ i = one_place held d apart k i (omega arith) inside place in
    subst (λ (j : ℕ). HoldsMeaning r kind list (get_or held j d).owner (get_or held j d).meaning) same (subst (λ (z : ListRead). HoldsMeaning r kind z (get_or held k d).owner (get_or held k d).meaning) one h.meaning)

module _ (file : List ℕ) (world : World) (r : Reading) (holds : Holds file world r) (kind : ListKind) (held : List HeldList) (is : held ≡ lists_held world kind) (apart : AreListsApart held) (list : ListRead) (one : Contains (lists_of r kind) list) (i : ℕ) (d : HeldList) (inside : i < length held) (here : (get_or held i d).at ≡ list.at) where
  means : HoldsMeaning r.links kind list (get_or held i d).owner (get_or held i d).meaning
  means = held_means r.links kind (lists_of r kind) held (subst (λ (z : List HeldList). HoldLists r.links kind (lists_of r kind) z) (sym is) (holds.lists kind)) apart list one i d inside here

  -- one that is held as dead is frozen, and no other
  pub dead_frozen : ((get_or held i d).meaning ≡ Dead) ↔ IsFrozen r.links kind list
  dead_frozen = (λ dead. subst (λ (z : HeldMeaning). HoldsMeaning r.links kind list (get_or held i d).owner z) dead means, frozen_dead (get_or held i d).meaning means)
    where
      frozen_dead : (meaning : HeldMeaning) → HoldsMeaning r.links kind list (get_or held i d).owner meaning → IsFrozen r.links kind list → meaning ≡ Dead
      frozen_dead Dead dead frozen = refl
      frozen_dead (Live items) live frozen = absurd (live.0 frozen)
