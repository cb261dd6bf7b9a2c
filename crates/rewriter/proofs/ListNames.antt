-- What names a list of a file names it in the file that is written anew.
use Rattle.std.proofs.Common.{◌≡◌, ◌<◌, ◌∙◌, inl, inr, ℕ, List, length, sym, ap, subst}
use Rattle.std.specs.Prelude.{Option, Some, None, slice_index_or}
use Rattle.dw_base.specs.declared.classes.Classes.{Classes}
use Rattle.form_codec.specs.Forms.{Meaning}
use Rattle.list_model.specs.declared.context.Context.{Context}
use Rattle.list_model.specs.declared.entry.ListKind.{ListKind}
use Rattle.unit_write.specs.declared.places.Places.{Places}
use Rattle.unit_write.specs.Values.{renewed}
use Rattle.value_links.specs.Reading.{Reading, lists_of, no_context, context_at, unit_at, view_at}
use Rattle.value_links.specs.Linked.{Linked, Links, IsLinked}
use Rattle.value_links.specs.Linked.Linked.{Itself, Operates, Refers, Program, ListAt, SlotAt, BaseOf, ViewsAt, Kept}
use Rattle.value_links.specs.Lists.{LinkNames, IsNamedIn, IsNamedBySlot, IsNamed, IsUnowned, IsOwner, IsOfTwoUnits, IsShared, AreViewsNamed}
use Rattle.value_links.specs.World.{World}
use Rattle.rewriter.specs.declared.tables.NewTable.{NewTable}
use Rattle.rewriter.specs.declared.new_places.NewPlaces.{NewPlaces}
use Rattle.rewriter.specs.inside.NewPlaces.{moved_lists, IsMovedTo}
use Rattle.rewriter.specs.inside.Follows.{AreReadAnew}
use Rattle.rewriter.proofs.ValuesStay.{value_went, value_came}
use Rattle.rewriter.proofs.MovedLists.{IsLinkMoved, old_at, new_at, new_once, moved_from, slot_stays, slot_came}
use Rattle.rewriter.proofs.MovedEntries.{entries_count}
use Rattle.rewriter.proofs.MovedViews.{new_run, run_moves}
use Rattle.rewriter.proofs.MovedLinks.{link_follows, link_came, views_came}
use Rattle.rewriter.proofs.TakenLaws.{links_taken}
use Rattle.rewriter.proofs.InwardMeanings.{taken_links}

module _ {classes : Classes} {file : List ℕ} {world : World} {tables : List NewTable} {places : List Places} {new_places : NewPlaces} {info abbrevs : List ℕ} {r s : Reading} (all : AreReadAnew classes file world tables places new_places info abbrevs r s) where
  -- VALUES

  pub unit_inside : (u : ℕ) → u < length s.links.units → u < length r.links.units
  unit_inside u inside = subst (λ (z : ℕ). u < z) all.units.count inside

  -- a value refers to what it referred to, a list at its new place
  pub value_links : (u number : ℕ) (linked : Linked) → u < length r.links.units → IsLinked r.links u number linked → (now : Linked) × IsLinkMoved new_places linked now × IsLinked s.links u number now
  value_links u number linked inside is =
      let (new, place, stands, moves) = value_went all u is.id number is.name is.meaning is.place inside is.stands in
      let taken = links_taken file r u is.id is.name is.meaning moves.taken linked all.read inside moves.took is.links in
      let (now, follows, links) = link_follows all u is.id is.name moves.taken moves.held moves.made linked inside is.stands.known moves.numbered taken in
      (now, follows, record { id = is.id; name = is.name; meaning = new; place = place; stands = stands; links = subst (λ (z : Meaning). Links s.links u is.id is.name z now) (sym moves.value) links })

  -- VIEW PAIRS

  -- a value that named view pairs names them
  pub view_value_stays : (u number k : ℕ) → u < length r.links.units → k < length r.views → IsLinked r.links u number (ViewsAt (view_at r.views k).list (view_at r.views k).at) → IsLinked s.links u number (ViewsAt (new_run all k).list (new_run all k).at)
  view_value_stays u number k inside known is =
      let (now, moves, links) = value_links u number (ViewsAt (view_at r.views k).list (view_at r.views k).at) inside is in
      subst (IsLinked s.links u number) (run_moves all k now known moves) links

  -- something names them
  pub views_named_stay : (k : ℕ) → k < length r.views → AreViewsNamed s.links (new_run all k).list (new_run all k).at
  views_named_stay k known =
      let (u, number, inside, is) = (all.read.views.each k known).named in
      (u, number, subst (λ (z : ℕ). u < z) (sym all.units.count) inside, view_value_stays u number k inside known is)

  -- and nothing names others
  pub views_named_came : (list at : ℕ) → AreViewsNamed s.links list at → (k : ℕ) × (k < length r.views) × (list ≡ (new_run all k).list) × (at ≡ (new_run all k).at)
  views_named_came list at (u, number, now, l) =
      let inside : u < length r.links.units = unit_inside u now in
      let known : l.id < length (unit_at r.links u).forest.entries = subst (λ (z : ℕ). l.id < z) (sym (entries_count all u inside)) l.stands.known in
      let (old, was, stands, moves) = value_came all u l.id number l.name l.meaning l.place inside l.stands in
      let links : Links s.links u l.id l.name (renewed moves.held moves.made moves.taken) (ViewsAt list at) = subst (λ (z : Meaning). Links s.links u l.id l.name z (ViewsAt list at)) moves.value l.links in
      let (k, named) = views_came all u l.id l.name moves.taken moves.held moves.made list at inside known moves.numbered links in
      (k, named.inside, named.with, named.here)

  -- contexts are kept
  pub same_context : (u : ℕ) → context_at s.links u ≡ context_at r.links u
  same_context u = ap (λ (z : List Context). slice_index_or z u no_context) all.contexts

module _ {classes : Classes} {file : List ℕ} {world : World} {tables : List NewTable} {places : List Places} {new_places : NewPlaces} {info abbrevs : List ℕ} {r s : Reading} (all : AreReadAnew classes file world tables places new_places info abbrevs r s) (kind : ListKind) where
  -- what named a list names it
  names_follow : (k : ℕ) (linked now : Linked) → k < length (lists_of r kind) → IsLinkMoved new_places linked now → LinkNames r.links linked kind (old_at all kind k) → LinkNames s.links now kind (new_at all kind k)
  names_follow k (ListAt of n) now inside (m, moves, e) (same, here) =
      let own : IsMovedTo (moved_lists new_places kind) n m = subst (λ (z : ListKind). IsMovedTo (moved_lists new_places z) n m) (sym same) moves in
      subst (λ (z : Linked). LinkNames s.links z kind (new_at all kind k)) (sym e) (same, sym (moved_from all kind k n m inside own (sym here)))
  names_follow k (SlotAt of p i) now inside e (same, names) =
      subst (λ (z : Linked). LinkNames s.links z kind (new_at all kind k)) (sym e) (same, slot_stays all kind p i k inside names)
  names_follow k (Itself meaning) now inside e names = absurd names
  names_follow k (Operates operations) now inside e names = absurd names
  names_follow k (Refers unit target) now inside e names = absurd names
  names_follow k (Program p) now inside e names = absurd names
  names_follow k (BaseOf of p) now inside e names = absurd names
  names_follow k (ViewsAt list n) now inside e names = absurd names
  names_follow k (Kept n) now inside e names = absurd names

  -- LISTS

  pub named_stays : (k u : ℕ) → k < length (lists_of r kind) → IsNamedIn r.links kind (old_at all kind k) u → IsNamedIn s.links kind (new_at all kind k) u
  named_stays k u inside is =
      let (now, moves, links) = value_links all u is.number is.linked is.known is.links in
      record { known = subst (λ (z : ℕ). u < z) (sym all.units.count) is.known; number = is.number; linked = now; links = links; names = names_follow k is.linked now inside moves is.names }

  -- an entry of the unit named the list that begins now at a place
  pub record WasNamedIn (at u : ℕ) : Type 0 where
    pub k : ℕ
    pub inside : k < length (lists_of r kind)
    pub from : IsNamedIn r.links kind (old_at all kind k) u
    pub to : at ≡ new_at all kind k

  pub named_came : (at u : ℕ) → IsNamedIn s.links kind at u → WasNamedIn at u
  named_came at u is =
      let known : u < length r.links.units = unit_inside all u is.known in
      let l = is.links in
      let (old, was, stands, moves) = value_came all u l.id is.number l.name l.meaning l.place known l.stands in
      let links : Links s.links u l.id l.name (renewed moves.held moves.made moves.taken) is.linked = subst (λ (z : Meaning). Links s.links u l.id l.name z is.linked) moves.value l.links in
      let named = link_came all kind u l.id l.name moves.taken moves.held moves.made is.linked at known moves.numbered links is.names in
      let old_links : Links r.links u l.id l.name old named.linked = taken_links r.links u l.id l.name old moves.taken named.linked known moves.took named.links in
      record {
        k = named.k;
        inside = named.inside;
        from = record { known = known; number = is.number; linked = named.linked; links = record { id = l.id; name = l.name; meaning = old; place = was; stands = stands; links = old_links }; names = named.names };
        to = named.here;
      }

  pub was_named : (k u : ℕ) → k < length (lists_of r kind) → IsNamedIn s.links kind (new_at all kind k) u → IsNamedIn r.links kind (old_at all kind k) u
  was_named k u inside is =
      let was = named_came (new_at all kind k) u is in
      subst (λ (z : ℕ). IsNamedIn r.links kind (old_at all kind z) u) (sym (new_once all kind k was.k inside was.inside was.to)) was.from

  by_slot_stays : (k : ℕ) → k < length (lists_of r kind) → IsNamedBySlot r.links kind (old_at all kind k) → IsNamedBySlot s.links kind (new_at all kind k)
  by_slot_stays k inside (p, i, names) = (p, i, slot_stays all kind p i k inside names)

  -- something names it
  pub name_stays : (k : ℕ) → k < length (lists_of r kind) → IsNamed r.links kind (old_at all kind k) → IsNamed s.links kind (new_at all kind k)
  name_stays k inside named = elim named [
    | inl (u, is) ↦ inl (u, named_stays k u inside is)
    | inr slot ↦ inr (by_slot_stays k inside slot)
  ]

  pub name_came : (at : ℕ) → IsNamed s.links kind at → (k : ℕ) × (k < length (lists_of r kind)) × (at ≡ new_at all kind k)
  name_came at named = elim named [
    | inl (u, is) ↦ (let was = named_came at u is in (was.k, was.inside, was.to))
    | inr (p, i, names) ↦ (let (k, was) = slot_came all kind p i at names in (k, was.inside, was.to))
  ]

  -- OWNERS

  pub unowned_stays : (k : ℕ) → k < length (lists_of r kind) → IsUnowned r.links kind (old_at all kind k) → IsUnowned s.links kind (new_at all kind k)
  unowned_stays k inside none = λ u is. none u (was_named k u inside is)

  pub was_unowned : (k : ℕ) → k < length (lists_of r kind) → IsUnowned s.links kind (new_at all kind k) → IsUnowned r.links kind (old_at all kind k)
  was_unowned k inside none = λ u is. none u (named_stays k u inside is)

  pub owner_stays : (k : ℕ) (owner : Option ℕ) → k < length (lists_of r kind) → IsOwner r.links kind (old_at all kind k) owner → IsOwner s.links kind (new_at all kind k) owner
  owner_stays k (Some u) inside (named, first) = (named_stays k u inside named, λ earlier before is. first earlier before (was_named k earlier inside is))
  owner_stays k None inside none = unowned_stays k inside none

  -- entries of two units named it
  pub were_two_units : (k : ℕ) → k < length (lists_of r kind) → IsOfTwoUnits s.links kind (new_at all kind k) → IsOfTwoUnits r.links kind (old_at all kind k)
  were_two_units k inside (u, v, apart, one, other) = (u, v, apart, was_named k u inside one, was_named k v inside other)

  -- CONTEXTS

  pub shared_stays : (k : ℕ) → k < length (lists_of r kind) → IsShared r.links kind (old_at all kind k) → IsShared s.links kind (new_at all kind k)
  shared_stays k inside (u, v, one, other, apart) =
      (u, v, named_stays k u inside one, named_stays k v inside other, λ same. apart (sym (same_context all u) ∙ same ∙ same_context all v))

  pub was_shared : (k : ℕ) → k < length (lists_of r kind) → IsShared s.links kind (new_at all kind k) → IsShared r.links kind (old_at all kind k)
  was_shared k inside (u, v, one, other, apart) =
      (u, v, was_named k u inside one, was_named k v inside other, λ same. apart (same_context all u ∙ same ∙ sym (same_context all v)))
