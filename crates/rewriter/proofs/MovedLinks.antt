-- What a value refers to, the new value refers to, where a list and view pairs are at their new places.
use Rattle.std.proofs.Common.{◌≡◌, ◌<◌, ◌+◌, ◌∙◌, ℕ, List, length, sym, ap, subst, refl}
use Rattle.std.specs.Prelude.{slice_index}
use Rattle.dw_base.specs.declared.classes.Classes.{Classes}
use Rattle.form_codec.specs.Forms.{Meaning}
use Rattle.form_codec.specs.Forms.Meaning.{Expression, InUnit, InSection, SectionPlace, LocationList, RangeList}
use Rattle.list_model.specs.declared.entry.ListKind.{ListKind}
use Rattle.list_model.specs.declared.entry.ListKind.TheVariants.{Ranges, Locations}
use Rattle.list_model.specs.Addresses.{HasBase}
use Rattle.unit_write.specs.declared.places.Places.{Places}
use Rattle.unit_write.specs.Values.{renewed}
use Rattle.value_links.specs.Attributes.{OffsetClass, offset_class}
use Rattle.value_links.specs.Attributes.OffsetClass.{LinePtr, RngList, LocList, RngListsPtr, LocListsPtr, AddrPtr, StrOffsetsPtr, MacPtr, Views, NoOffset}
use Rattle.value_links.specs.Reading.{Linkable, Reading, of_kind, lists_of, unit_at, program_at}
use Rattle.value_links.specs.ListPlaces.{IsListPlace, IsOffsetsAt}
use Rattle.value_links.specs.Linked.{Linked, IsTargetAt, IsListAt, IsAddressesAt, OffsetLinks, IndexLinks, Links}
use Rattle.value_links.specs.Linked.Linked.{Itself, Operates, Refers, Program, ListAt, SlotAt, BaseOf, ViewsAt, Kept}
use Rattle.value_links.specs.Lists.{LinkNames}
use Rattle.value_links.specs.World.{World}
use Rattle.value_links.proofs.LinkedOnce.{linked_once}
use Rattle.rewriter.specs.declared.tables.NewTable.{NewTable}
use Rattle.rewriter.specs.declared.new_places.NewPlaces.{NewPlaces}
use Rattle.rewriter.specs.inside.Tables.{new_table_at}
use Rattle.rewriter.specs.inside.Placed.{places_at}
use Rattle.rewriter.specs.inside.NewPlaces.{moved_lists, IsMovedTo, IsNewOffset}
use Rattle.rewriter.specs.inside.Numbers.{MovesTo, IsNewValue}
use Rattle.rewriter.specs.inside.Follows.{AreReadAnew}
use Rattle.rewriter.proofs.MovedPlaces.{TargetMoves, target_moves}
use Rattle.rewriter.proofs.MovedEntries.{moved}
use Rattle.rewriter.proofs.MovedExpressions.{expression_follows}
use Rattle.rewriter.proofs.MovedBases.{offsets_move, base_stays, base_came}
use Rattle.rewriter.proofs.MovedLists.{IsLinkMoved, old_at, new_at, moved_list, begins_anew, slot_came}
use Rattle.rewriter.proofs.MovedViews.{NamedARun, views_follow, views_named}

-- the class of the offsets that name lists of a kind
abbrev list_class : ListKind → OffsetClass
list_class Ranges = RngList
list_class Locations = LocList

class_links : (r : Linkable) (kind : ListKind) (u id n : ℕ) (linked : Linked) → OffsetLinks r u id (list_class kind) n linked → IsListAt r kind n × (linked ≡ ListAt kind n)
class_links r Ranges u id n linked links = links
class_links r Locations u id n linked links = links

-- what names a list of a kind itself
names_itself : (s : Linkable) (of kind : ListKind) (n at : ℕ) (linked : Linked) → linked ≡ ListAt of n → LinkNames s linked kind at → (list_class of ≡ list_class kind) × (at ≡ n)
names_itself s of kind n at linked e names =
    let (same, here) = subst (λ (z : Linked). LinkNames s z kind at) e names in
    (ap list_class (sym same), here)

module _ {classes : Classes} {file : List ℕ} {world : World} {tables : List NewTable} {places : List Places} {new_places : NewPlaces} {info abbrevs : List ℕ} {r s : Reading} (all : AreReadAnew classes file world tables places new_places info abbrevs r s) where
  target_at : (u old new : ℕ) → u < length r.links.units → MovesTo (unit_at r.links u).forest (places_at places u) old new → TargetMoves (unit_at r.links u).forest (unit_at s.links u).forest old new
  target_at u old new inside moves =
      let m = moved all u inside in
      target_moves (unit_at r.links u).forest (unit_at s.links u).forest (places_at places u) (new_table_at tables (slice_index world.table_of u)).numbers m.entries m.chain_ends m.entry_places m.end_places old new moves

  -- what is moved to, and that the new value refers to it
  abbrev Follows : Linked → (Linked → Type 0) → Type 0
  Follows linked LinksTo = (now : Linked) × IsLinkMoved new_places linked now × LinksTo now

  -- what isn't a list stays
  stays : (linked same : Linked) (LinksTo : Linked → Type 0) → linked ≡ same → IsLinkMoved new_places same same → LinksTo same → Follows linked LinksTo
  stays linked same LinksTo e moves links = (same, subst (λ (z : Linked). IsLinkMoved new_places z same) (sym e) moves, links)

  kept_follows : (n new : ℕ) (linked : Linked) → IsNewOffset new_places linked new → linked ≡ Kept n → Follows linked (λ (z : Linked). z ≡ Kept new)
  kept_follows n new linked is e =
      let here : new ≡ n = subst (λ (z : Linked). IsNewOffset new_places z new) e is in
      stays linked (Kept n) (λ (z : Linked). z ≡ Kept new) e refl (ap (λ (z : ℕ). Kept z) (sym here))

  -- a list is named at its new place
  list_follows : (kind : ListKind) (n new : ℕ) (linked : Linked) → IsNewOffset new_places linked new → linked ≡ ListAt kind n → Follows linked (λ (z : Linked). IsListAt s.links kind new × (z ≡ ListAt kind new))
  list_follows kind n new linked is e =
      let moves : IsMovedTo (moved_lists new_places kind) n new = subst (λ (z : Linked). IsNewOffset new_places z new) e is in
      let (k, list) = moved_list all kind n new moves in
      let (q, begins) = begins_anew all kind k list.inside in
      (ListAt kind new, subst (λ (z : Linked). IsLinkMoved new_places z (ListAt kind new)) (sym e) (new, moves, refl), ((q, subst (IsListPlace (of_kind s.links kind) q) (sym list.to) begins), refl))

  -- and so is a contribution
  part_follows : (kind : ListKind) (n new p : ℕ) (linked : Linked) → IsNewOffset new_places linked new → IsOffsetsAt (of_kind r.links kind) n p → linked ≡ BaseOf kind p → Follows linked (λ (z : Linked). (p : ℕ) × IsOffsetsAt (of_kind s.links kind) new p × (z ≡ BaseOf kind p))
  part_follows kind n new p linked is here e =
      let there = offsets_move all kind n new p here (subst (λ (z : Linked). IsNewOffset new_places z new) e is) in
      stays linked (BaseOf kind p) (λ (z : Linked). (p : ℕ) × IsOffsetsAt (of_kind s.links kind) new p × (z ≡ BaseOf kind p)) e refl (p, there, refl)

  offset_follows : (u id n new : ℕ) (class : OffsetClass) (linked : Linked) → u < length r.links.units → id < length (unit_at r.links u).forest.entries → IsNewOffset new_places linked new → OffsetLinks r.links u id class n linked → Follows linked (OffsetLinks s.links u id class new)
  offset_follows u id n new LinePtr linked inside known is (p, (p_in, p_at), e) =
      let here : IsNewOffset new_places (Program p) new = subst (λ (z : Linked). IsNewOffset new_places z new) e is in
      let place : (program_at s.links p).head.at ≡ new = all.programs.places p p_in ∙ sym here.1 in
      stays linked (Program p) (OffsetLinks s.links u id LinePtr new) e refl (p, (subst (λ (z : ℕ). p < z) (sym all.programs.count) p_in, place), refl)
  offset_follows u id n new RngList linked inside known is (at, e) = list_follows Ranges n new linked is e
  offset_follows u id n new LocList linked inside known is (at, e) = list_follows Locations n new linked is e
  offset_follows u id n new RngListsPtr linked inside known is (p, here, e) = part_follows Ranges n new p linked is here e
  offset_follows u id n new LocListsPtr linked inside known is (p, here, e) = part_follows Locations n new p linked is here e
  offset_follows u id n new AddrPtr linked inside known is ((table, has), e) =
      let (now, moves, kept) = kept_follows n new linked is e in
      let same : new ≡ n = subst (λ (z : Linked). IsNewOffset new_places z new) e is in
      let there : IsAddressesAt s.links new = (table, subst (λ (z : List ℕ). HasBase z new table) (sym all.addresses) (subst (λ (z : ℕ). HasBase r.links.addresses z table) (sym same) has)) in
      (now, moves, (there, kept))
  offset_follows u id n new StrOffsetsPtr linked inside known is links = kept_follows n new linked is links
  offset_follows u id n new MacPtr linked inside known is links = kept_follows n new linked is links
  offset_follows u id n new Views linked inside known is links = views_follow all u id n new linked inside known is links
  offset_follows u id n new NoOffset linked inside known is links = absurd links

  -- an index counts the slots of the contribution that it counted
  index_stays : (kind : ListKind) (u i : ℕ) (linked : Linked) → u < length r.links.units → IndexLinks r.links u kind i linked → Follows linked (IndexLinks s.links u kind i)
  index_stays kind u i linked inside (p, base, counted, e) =
      let (n, first, here) = base in
      let slots = (all.lists kind).slots p here.0 in
      stays linked (SlotAt kind p i) (IndexLinks s.links u kind i) e refl (p, base_stays all kind u p inside base, subst (λ (z : ℕ). i < z) (sym slots) counted, refl)

  -- what the old value refers to, and what the new one does
  record BothLink (u id name : ℕ) (meaning : Meaning) (new : ℕ) (made : List ℕ) : Type 0 where
    linked : Linked
    from : Links r.links u id name meaning linked
    to : Follows linked (Links s.links u id name (renewed new made meaning))

  both_link : (u id name : ℕ) (meaning : Meaning) (new : ℕ) (made : List ℕ) (linked : Linked) → u < length r.links.units → id < length (unit_at r.links u).forest.entries → IsNewValue r.links places new_places u id name meaning new made → Links r.links u id name meaning linked → BothLink u id name meaning new made
  both_link u id name (InUnit n) new made linked inside known is links =
      let t = target_at u ((unit_at r.links u).head.at + n) ((places_at places u).start + new) inside is in
      let begins : (places_at places u).start ≡ (unit_at s.links u).head.at = sym (moved all u inside).at in
      let to : IsTargetAt (unit_at s.links u).forest t.target ((unit_at s.links u).head.at + new) = subst (λ (z : ℕ). IsTargetAt (unit_at s.links u).forest t.target (z + new)) begins t.to in
      record { linked = Refers u t.target; from = (t.target, t.from, refl); to = (Refers u t.target, refl, (t.target, to, refl)) }
  both_link u id name (InSection n) new made linked inside known (unit, unit_in, is) links =
      let t = target_at unit n new unit_in is in
      let also : unit < length s.links.units = subst (λ (z : ℕ). unit < z) (sym all.units.count) unit_in in
      record { linked = Refers unit t.target; from = (unit, t.target, (unit_in, t.from), refl); to = (Refers unit t.target, refl, (unit, t.target, (also, t.to), refl)) }
  both_link u id name (SectionPlace n) new made linked inside known (w, old, is) links = record { linked = w; from = old; to = offset_follows u id n new (offset_class name) w inside known is old }
  both_link u id name (LocationList i) new made linked inside known is links = record { linked = linked; from = links; to = index_stays Locations u i linked inside links }
  both_link u id name (RangeList i) new made linked inside known is links = record { linked = linked; from = links; to = index_stays Ranges u i linked inside links }
  both_link u id name (Expression bytes) new made linked inside known is (operations, links, e) =
      record { linked = Operates operations; from = (operations, links, refl); to = (Operates operations, refl, (operations, expression_follows all u bytes made operations is links, refl)) }
  both_link u id name meaning new made linked inside known is links = record { linked = Itself meaning; from = refl; to = (Itself meaning, refl, refl) }

  -- so what the old value refers to, the new one does, but for the places of a list and of view pairs
  pub link_follows : (u id name : ℕ) (meaning : Meaning) (new : ℕ) (made : List ℕ) (linked : Linked) → u < length r.links.units → id < length (unit_at r.links u).forest.entries → IsNewValue r.links places new_places u id name meaning new made → Links r.links u id name meaning linked → (now : Linked) × IsLinkMoved new_places linked now × Links s.links u id name (renewed new made meaning) now
  link_follows u id name meaning new made linked inside known is links =
      let both = both_link u id name meaning new made linked inside known is links in
      let same : both.linked ≡ linked = linked_once file r.links u id name meaning both.linked linked all.read.links inside both.from links in
      subst (λ (z : Linked). Follows z (Links s.links u id name (renewed new made meaning))) same both.to

  -- THE OTHER WAY ROUND

  -- what an old value referred to, where the new one names the list of a kind at a place
  pub record NamedAList (kind : ListKind) (LinksTo : Linked → Type 0) (at : ℕ) : Type 0 where
    pub k : ℕ
    pub inside : k < length (lists_of r kind)
    pub linked : Linked
    pub links : LinksTo linked
    pub names : LinkNames r.links linked kind (old_at all kind k)
    pub here : at ≡ new_at all kind k

  -- what is named by something that names no list
  names_none : (kind : ListKind) (linked other : Linked) (at : ℕ) → linked ≡ other → (LinkNames s.links other kind at → ⊥) → LinkNames s.links linked kind at → ⊥
  names_none kind linked other at e none names = none (subst (λ (z : Linked). LinkNames s.links z kind at) e names)

  -- a section offset that names a list is its place
  offset_names : (kind : ListKind) (u id new at : ℕ) (class : OffsetClass) (linked : Linked) → OffsetLinks s.links u id class new linked → LinkNames s.links linked kind at → (class ≡ list_class kind) × (at ≡ new)
  offset_names kind u id new at LinePtr linked (p, here, e) names = absurd (names_none kind linked (Program p) at e (λ none. none) names)
  offset_names kind u id new at RngList linked (here, e) names = names_itself s.links Ranges kind new at linked e names
  offset_names kind u id new at LocList linked (here, e) names = names_itself s.links Locations kind new at linked e names
  offset_names kind u id new at RngListsPtr linked (p, here, e) names = absurd (names_none kind linked (BaseOf Ranges p) at e (λ none. none) names)
  offset_names kind u id new at LocListsPtr linked (p, here, e) names = absurd (names_none kind linked (BaseOf Locations p) at e (λ none. none) names)
  offset_names kind u id new at AddrPtr linked (here, e) names = absurd (names_none kind linked (Kept new) at e (λ none. none) names)
  offset_names kind u id new at StrOffsetsPtr linked e names = absurd (names_none kind linked (Kept new) at e (λ none. none) names)
  offset_names kind u id new at MacPtr linked e names = absurd (names_none kind linked (Kept new) at e (λ none. none) names)
  offset_names kind u id new at Views linked (list, first, together, e) names = absurd (names_none kind linked (ViewsAt list new) at e (λ none. none) names)
  offset_names kind u id new at NoOffset linked links names = absurd links

  offset_came : (kind : ListKind) (u id name n new at : ℕ) (linked w : Linked) → OffsetLinks s.links u id (offset_class name) new linked → LinkNames s.links linked kind at → OffsetLinks r.links u id (offset_class name) n w → IsNewOffset new_places w new → NamedAList kind (Links r.links u id name (SectionPlace n)) at
  offset_came kind u id name n new at linked w links names old is =
      let (class, here) = offset_names kind u id new at (offset_class name) linked links names in
      let (_, e) = class_links r.links kind u id n w (subst (λ (z : OffsetClass). OffsetLinks r.links u id z n w) class old) in
      let moves : IsMovedTo (moved_lists new_places kind) n new = subst (λ (z : Linked). IsNewOffset new_places z new) e is in
      let (k, list) = moved_list all kind n new moves in
      let named : LinkNames r.links (ListAt kind n) kind (old_at all kind k) = (refl, sym list.from) in
      record { k = k; inside = list.inside; linked = w; links = old; names = subst (λ (z : Linked). LinkNames r.links z kind (old_at all kind k)) (sym e) named; here = here ∙ list.to }

  -- an index names a list of its kind
  index_came_so : (kind : ListKind) (u i at : ℕ) (linked : Linked) → u < length r.links.units → IndexLinks s.links u kind i linked → LinkNames s.links linked kind at → NamedAList kind (IndexLinks r.links u kind i) at
  index_came_so kind u i at linked inside (p, base, counted, e) names =
      let (_, slot) = subst (λ (z : Linked). LinkNames s.links z kind at) e names in
      let (k, was) = slot_came all kind p i at slot in
      let old = base_came all kind u p inside base in
      record { k = k; inside = was.inside; linked = SlotAt kind p i; links = (p, old, was.from.0.counted, refl); names = (refl, was.from); here = was.to }

  index_came : (kind of : ListKind) (u i at : ℕ) (linked : Linked) → u < length r.links.units → IndexLinks s.links u of i linked → LinkNames s.links linked kind at → NamedAList kind (IndexLinks r.links u of i) at
  index_came kind of u i at linked inside links names =
      let (p, _, _, e) = links in
      let (same, _) = subst (λ (z : Linked). LinkNames s.links z kind at) e names in
      let own : IndexLinks s.links u kind i linked = subst (λ (z : ListKind). IndexLinks s.links u z i linked) (sym same) links in
      subst (λ (z : ListKind). NamedAList kind (IndexLinks r.links u z i) at) same (index_came_so kind u i at linked inside own names)

  pub link_came : (kind : ListKind) (u id name : ℕ) (meaning : Meaning) (new : ℕ) (made : List ℕ) (linked : Linked) (at : ℕ) → u < length r.links.units → IsNewValue r.links places new_places u id name meaning new made → Links s.links u id name (renewed new made meaning) linked → LinkNames s.links linked kind at → NamedAList kind (Links r.links u id name meaning) at
  link_came kind u id name (InUnit n) new made linked at inside is (target, here, e) names = absurd (names_none kind linked (Refers u target) at e (λ none. none) names)
  link_came kind u id name (InSection n) new made linked at inside is (unit, target, here, e) names = absurd (names_none kind linked (Refers unit target) at e (λ none. none) names)
  link_came kind u id name (SectionPlace n) new made linked at inside (w, old, is) links names = offset_came kind u id name n new at linked w links names old is
  link_came kind u id name (LocationList i) new made linked at inside is links names = index_came kind Locations u i at linked inside links names
  link_came kind u id name (RangeList i) new made linked at inside is links names = index_came kind Ranges u i at linked inside links names
  link_came kind u id name (Expression bytes) new made linked at inside is (operations, links, e) names = absurd (names_none kind linked (Operates operations) at e (λ none. none) names)
  link_came kind u id name meaning new made linked at inside is links names = absurd (names_none kind linked (Itself meaning) at links (λ none. none) names)

  -- VIEW PAIRS

  -- what names view pairs by a section offset of a class
  offset_viewed : (u id n new list at : ℕ) (class : OffsetClass) (w : Linked) → u < length r.links.units → id < length (unit_at r.links u).forest.entries → OffsetLinks s.links u id class new (ViewsAt list at) → OffsetLinks r.links u id class n w → IsNewOffset new_places w new → (k : ℕ) × NamedARun all (OffsetLinks r.links u id class n) list at k
  offset_viewed u id n new list at LinePtr w inside known (p, here, e) old is = absurd (cc (e))
  offset_viewed u id n new list at RngList w inside known (here, e) old is = absurd (cc (e))
  offset_viewed u id n new list at LocList w inside known (here, e) old is = absurd (cc (e))
  offset_viewed u id n new list at RngListsPtr w inside known (p, here, e) old is = absurd (cc (e))
  offset_viewed u id n new list at LocListsPtr w inside known (p, here, e) old is = absurd (cc (e))
  offset_viewed u id n new list at AddrPtr w inside known (here, e) old is = absurd (cc (e))
  offset_viewed u id n new list at StrOffsetsPtr w inside known e old is = absurd (cc (e))
  offset_viewed u id n new list at MacPtr w inside known e old is = absurd (cc (e))
  offset_viewed u id n new list at Views w inside known links old is = views_named all u id n new list at w inside known links old is
  offset_viewed u id n new list at NoOffset w inside known links old is = absurd links

  pub views_came : (u id name : ℕ) (meaning : Meaning) (new : ℕ) (made : List ℕ) (list at : ℕ) → u < length r.links.units → id < length (unit_at r.links u).forest.entries → IsNewValue r.links places new_places u id name meaning new made → Links s.links u id name (renewed new made meaning) (ViewsAt list at) → (k : ℕ) × NamedARun all (Links r.links u id name meaning) list at k
  views_came u id name (InUnit n) new made list at inside known is (target, here, e) = absurd (cc (e))
  views_came u id name (InSection n) new made list at inside known is (unit, target, here, e) = absurd (cc (e))
  views_came u id name (SectionPlace n) new made list at inside known (w, old, is) links = offset_viewed u id n new list at (offset_class name) w inside known links old is
  views_came u id name (LocationList i) new made list at inside known is (p, base, counted, e) = absurd (cc (e))
  views_came u id name (RangeList i) new made list at inside known is (p, base, counted, e) = absurd (cc (e))
  views_came u id name (Expression bytes) new made list at inside known is (operations, links, e) = absurd (cc (e))
  views_came u id name meaning new made list at inside known is e = absurd (cc (e))
