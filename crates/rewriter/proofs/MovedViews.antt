-- Where the view pairs of a file stand that is written anew, and with which lists they go.
use Rattle.std.proofs.Common.{◌≡◌, ◌<◌, ◌∙◌, ◌++◌, inl, inr, true≢false, Bool, true, false, ℕ, List, [], ◌∷◌, length, sym, ap, subst, refl, arith}
use Rattle.std.specs.Prelude.{filter, slice_index, if◌then◌else◌}
use Rattle.std.specs.List.{AllZip}
use Rattle.std.proofs.lemmas.Bool.{cases_lt, eqb-true}
use Rattle.dw_base.specs.declared.classes.Classes.{Classes}
use Rattle.form_codec.specs.Forms.{Meaning}
use Rattle.form_codec.specs.Forms.Meaning.{Expression, InUnit, InSection, SectionPlace, LocationList}
use Rattle.entry_read.specs.declared.head.UnitHead.{UnitHead}
use Rattle.list_model.specs.declared.entry.ListKind.TheVariants.{Locations}
use Rattle.unit_write.specs.declared.places.Places.{Places}
use Rattle.unit_write.specs.Values.{renewed}
use Rattle.value_links.specs.Attributes.{location}
use Rattle.value_links.specs.Reading.{Linkable, Reading, ViewRead, unit_at, list_at, view_at}
use Rattle.value_links.specs.Values.{entry_of}
use Rattle.value_links.specs.ListPlaces.{IsListPlace, IsSlot}
use Rattle.value_links.specs.Linked.{Linked, IsListAt, Links, is_located, TellsPlace, IsFirstLocated, AreTogether, ViewLinks}
use Rattle.value_links.specs.Linked.Linked.{ListAt, ViewsAt}
use Rattle.value_links.specs.Lists.{AreViewsApart}
use Rattle.value_links.specs.World.{World}
use Rattle.value_links.proofs.LinkedOnce.{base_once}
use Rattle.value_links.proofs.Passing.{first_once}
use Rattle.rewriter.specs.declared.tables.NewTable.{NewTable}
use Rattle.rewriter.specs.declared.new_places.NewPlaces.{NewPlaces}
use Rattle.rewriter.specs.inside.Taken.{MeansFor}
use Rattle.rewriter.specs.inside.NewPlaces.{moved_lists, IsMovedTo, AreViewsMoved, IsNewOffset}
use Rattle.rewriter.specs.inside.Numbers.{IsNewNumber, IsNewValue}
use Rattle.rewriter.specs.inside.Follows.{AreReadAnew}
use Rattle.rewriter.proofs.MovedAttributes.{IsMovedAttribute, says, attributes_moved}
use Rattle.rewriter.proofs.MovedBases.{base_stays, base_came}
use Rattle.rewriter.proofs.MovedLists.{IsLinkMoved, old_at, new_at, moved_list, list_moves, old_once, slot_stays, slot_named, begins_anew}
use Rattle.rewriter.proofs.InwardMeanings.{taken_alike}

-- THE FIRST OF SOME ATTRIBUTES

-- Where each thing is in a relation to another, the one behind some others is in it to the one behind as many, and a test that passes
-- with both or with neither passes none of the latter if it passes none of the former.
module _ {X : Type 0} (Moves : X → X → Type 0) (test : X → Bool) (same : (a b : X) → Moves a b → test b ≡ test a) where
  abbrev kept : Bool → X → List X → List X
  kept passes x rest = if passes then x ∷ rest else rest

  none_kept : (passes : Bool) (x y : X) (xs ys : List X) → (xs ≡ [] → ys ≡ []) → kept passes x xs ≡ [] → kept passes y ys ≡ []
  none_kept true x y xs ys rest none = absurd (cc (none))
  none_kept false x y xs ys rest none = rest none

  pub record IsAround (before : List X) (a : X) (news : List X) : Type 0 where
    pub front : List X
    pub b : X
    pub rest : List X
    pub parts : news ≡ front ++ b ∷ rest
    pub moves : Moves a b
    pub none : filter test before ≡ [] → filter test front ≡ []

  pub around : (before after : List X) (a : X) (news : List X) → AllZip Moves (before ++ a ∷ after) news → IsAround before a news
  around [] after a [] moves = absurd moves
  around [] after a (b ∷ news) (move, moves) = record { front = []; b = b; rest = news; parts = refl; moves = move; none = λ none. none }
  around (x ∷ before) after a [] moves = absurd moves
  around (x ∷ before) after a (y ∷ news) (move, moves) =
      let more = around before after a news moves in
      record {
        front = y ∷ more.front;
        b = more.b;
        rest = more.rest;
        parts = ap (λ (z : List X). y ∷ z) more.parts;
        moves = more.moves;
        none = λ none. ap (λ (z : Bool). kept z y (filter test more.front)) (same x y move) ∙ none_kept (test x) x y (filter test before) (filter test more.front) more.none none;
      }

-- LOCATED ATTRIBUTES

-- a value that is renewed has a location list where the old one has
located_same : (name number : ℕ) (made : List ℕ) (meaning : Meaning) → is_located (name, renewed number made meaning) ≡ is_located (name, meaning)
located_same name number made (InUnit n) = refl
located_same name number made (InSection n) = refl
located_same name number made (SectionPlace n) = refl
located_same name number made (LocationList i) = refl
located_same name number made (Expression bytes) = refl
located_same name number made meaning = refl

located_moves : (r : Linkable) (places : List Places) (new_places : NewPlaces) (u id : ℕ) (a b : ℕ × Meaning) → IsMovedAttribute r places new_places u id a b → is_located b ≡ is_located a
located_moves r places new_places u id (name, meaning) (other, value) move =
    ap (λ (z : ℕ). is_located (z, value)) move.name
    ∙ ap (λ (z : Meaning). is_located (name, z)) move.value
    ∙ located_same name move.number move.made move.taken
    ∙ taken_alike (λ (z : Meaning). is_located (name, z)) (λ n m. refl) (unit_at r u).head meaning move.taken move.took

-- a located value is taken as it is
located_kept : (head : UnitHead) (name : ℕ) (meaning taken : Meaning) → MeansFor head meaning taken → is_located (name, meaning) ≡ true → taken ≡ meaning
located_kept head name (SectionPlace n) taken took located = took
located_kept head name (LocationList i) taken took located = took
located_kept head name meaning taken took located = absurd (true≢false (sym located))

-- the section offset of a DW_AT_location names a location list
location_links : (r : Linkable) (u id n : ℕ) (linked : Linked) → Links r u id location (SectionPlace n) linked → IsListAt r Locations n × (linked ≡ ListAt Locations n)
location_links r u id n linked links = links

module _ {classes : Classes} {file : List ℕ} {world : World} {tables : List NewTable} {places : List Places} {new_places : NewPlaces} {info abbrevs : List ℕ} {r s : Reading} (all : AreReadAnew classes file world tables places new_places info abbrevs r s) where
  -- the place of a list that a value told, and the new one that its new value tells and no other
  record PlaceMoves (u list : ℕ) (new : Meaning) : Type 0 where
    k : ℕ
    inside : k < length r.location_lists
    from : list ≡ old_at all Locations k
    to : TellsPlace s.links u new (new_at all Locations k)
    once : (other : ℕ) → TellsPlace s.links u new other → other ≡ new_at all Locations k

  offset_tells : (u id n number list : ℕ) → IsNewNumber r.links places new_places u id location (SectionPlace n) number → list ≡ n → PlaceMoves u list (SectionPlace number)
  offset_tells u id n number list (w, links, is) here =
      let (_, e) = location_links r.links u id n w links in
      let moves : IsMovedTo (moved_lists new_places Locations) n number = subst (λ (z : Linked). IsNewOffset new_places z number) e is in
      let (k, moved) = moved_list all Locations n number moves in
      let (q, begins) = begins_anew all Locations k moved.inside in
      record {
        k = k;
        inside = moved.inside;
        from = here ∙ moved.from;
        to = ((q, subst (IsListPlace s.links.locations q) (sym moved.to) begins), sym moved.to);
        once = λ other told. told.1 ∙ moved.to;
      }

  index_tells : (u i list : ℕ) → TellsPlace r.links u (LocationList i) list → u < length r.links.units → PlaceMoves u list (LocationList i)
  index_tells u i list (p, base, slot) inside =
      let (k, known, names) = slot_named all Locations p i slot.known slot.counted in
      let (now, _) = slot_stays all Locations p i k known names in
      record {
        k = k;
        inside = known;
        from = slot.tells ∙ sym names.0.tells;
        to = (p, base_stays all Locations u p inside base, now);
        once = λ other told.
            let (q, there, other_slot) = told in
            let same : q ≡ p = base_once file r.links all.read.links u Locations q p (base_came all Locations u q inside there) base in
            (subst (λ (z : ℕ). IsSlot s.links.locations z i other) same other_slot).tells ∙ sym now.tells;
      }

  tells_move : (u id name number : ℕ) (made : List ℕ) (meaning : Meaning) (list : ℕ) → u < length r.links.units → is_located (name, meaning) ≡ true → IsNewValue r.links places new_places u id name meaning number made → TellsPlace r.links u meaning list → PlaceMoves u list (renewed number made meaning)
  tells_move u id name number made (SectionPlace n) list inside located is (at, here) =
      let named : name ≡ location = eqb-true name location located in
      offset_tells u id n number list (subst (λ (z : ℕ). IsNewNumber r.links places new_places u id z (SectionPlace n) number) named is) here
  tells_move u id name number made (LocationList i) list inside located is tells = index_tells u i list tells inside
  tells_move u id name number made (InUnit n) list inside located is tells = absurd tells
  tells_move u id name number made (InSection n) list inside located is tells = absurd tells
  tells_move u id name number made (Expression bytes) list inside located is tells = absurd tells
  tells_move u id name number made meaning list inside located is tells = absurd tells

  -- a located value is taken as it is
  -- The first located attribute of an entry told the place of a list, and tells the new one and no other.
  pub record LocatedMoves (u id list : ℕ) : Type 0 where
    pub k : ℕ
    pub inside : k < length r.location_lists
    pub from : list ≡ old_at all Locations k
    pub to : IsFirstLocated s.links u id (new_at all Locations k)
    pub once : (other : ℕ) → IsFirstLocated s.links u id other → other ≡ new_at all Locations k

  pub located_stays : (u id list : ℕ) → u < length r.links.units → id < length (unit_at r.links u).forest.entries → IsFirstLocated r.links u id list → LocatedMoves u id list
  located_stays u id list inside known h =
      let news : List (ℕ × Meaning) = (says s.links u (entry_of (unit_at s.links u) id)).attributes in
      let zip : AllZip (IsMovedAttribute r.links places new_places u id) (h.before ++ h.attribute ∷ h.after) news = subst (λ (z : List (ℕ × Meaning)). AllZip (IsMovedAttribute r.links places new_places u id) z news) h.parts (attributes_moved all u id inside known) in
      let p = around (IsMovedAttribute r.links places new_places u id) is_located (located_moves r.links places new_places u id) h.before h.after h.attribute news zip in
      let kept : p.moves.taken ≡ h.attribute.1 = located_kept (unit_at r.links u).head h.attribute.0 h.attribute.1 p.moves.taken p.moves.took h.located in
      let value : p.b.1 ≡ renewed p.moves.number p.moves.made h.attribute.1 = p.moves.value ∙ ap (renewed p.moves.number p.moves.made) kept in
      let numbered = subst (λ (z : Meaning). IsNewValue r.links places new_places u id h.attribute.0 z p.moves.number p.moves.made) kept p.moves.numbered in
      let m = tells_move u id h.attribute.0 p.moves.number p.moves.made h.attribute.1 list inside h.located numbered h.tells in
      let located : is_located p.b ≡ true = located_moves r.links places new_places u id h.attribute p.b p.moves ∙ h.located in
      let none : filter is_located p.front ≡ [] = p.none h.first in
      record {
        k = m.k;
        inside = m.inside;
        from = m.from;
        to = record { before = p.front; attribute = p.b; after = p.rest; parts = p.parts; first = none; located = located; tells = subst (λ (z : Meaning). TellsPlace s.links u z (new_at all Locations m.k)) (sym value) m.to };
        once = λ other g.
            let same : g.attribute ≡ p.b = (first_once is_located g.before g.attribute g.after p.front p.b p.rest (sym g.parts ∙ p.parts) g.first none g.located located).1 in
            let told : TellsPlace s.links u p.b.1 other = subst (λ (z : ℕ × Meaning). TellsPlace s.links u z.1 other) same g.tells in
            m.once other (subst (λ (z : Meaning). TellsPlace s.links u z other) value told);
      }

  -- VIEW PAIRS

  -- view pairs by their number among the old ones, as they are now
  abbrev pub new_run : ℕ → ViewRead
  new_run k = view_at s.views (slice_index all.views.numbers k)

  -- those that moved, by this number
  pub record IsMovedRun (list n m k : ℕ) : Type 0 where
    pub inside : k < length r.views
    pub with : list ≡ (view_at r.views k).list
    pub from : n ≡ (view_at r.views k).at
    pub to : m ≡ (new_run k).at

  pub moved_run : (list n m : ℕ) → AreViewsMoved new_places.views.items list n m → (k : ℕ) × IsMovedRun list n m k
  moved_run list n m moves =
      let inside : moves.number < length r.views = subst (λ (z : ℕ). moves.number < z) all.views.count moves.inside in
      (moves.number, record { inside = inside; with = sym moves.with ∙ all.views.with moves.number inside; from = sym moves.from ∙ all.views.from moves.number inside; to = sym moves.to ∙ all.views.to moves.number inside })

  -- two of the old ones are apart
  run_once : (j k : ℕ) → j < length r.views → k < length r.views → (view_at r.views j).list ≡ (view_at r.views k).list → (view_at r.views j).at ≡ (view_at r.views k).at → j ≡ k
  run_once j k j_in k_in same here = elim (cases_lt j k) [
    | inl less ↦ absurd (apart_not (view_at r.views j) (view_at r.views k) (all.read.views.rising j k less k_in) same here)
    | inr rest ↦ elim (cases_lt k j) [
      | inl less ↦ absurd (apart_not (view_at r.views k) (view_at r.views j) (all.read.views.rising k j less j_in) (sym same) (sym here))
      | inr more ↦ omega arith
    ]
  ]
    where
      apart_not : (a b : ViewRead) → AreViewsApart a b → a.list ≡ b.list → a.at ≡ b.at → ⊥
      apart_not a b (inl less) list at = omega arith
      apart_not a b (inr (_, less)) list at = omega arith

  -- both places of view pairs that moved
  pub run_moves : (k : ℕ) (now : Linked) → k < length r.views → IsLinkMoved new_places (ViewsAt (view_at r.views k).list (view_at r.views k).at) now → now ≡ ViewsAt (new_run k).list (new_run k).at
  run_moves k now inside (l, m, list, views, e) =
      let (j, run) = moved_run (view_at r.views k).list (view_at r.views k).at m views in
      let (i, moved) = moved_list all Locations (view_at r.views k).list l list in
      let each = all.views.each k inside in
      let number : j ≡ k = run_once j k run.inside inside (sym run.with) (sym run.from) in
      let one : i ≡ each.list = old_once all Locations i each.list moved.inside each.inside (sym moved.from ∙ each.from) in
      let at : m ≡ (new_run k).at = run.to ∙ ap (λ (z : ℕ). (new_run z).at) number in
      let with : l ≡ (new_run k).list = moved.to ∙ ap (new_at all Locations) one ∙ sym each.to in
      e ∙ ap (λ (z : ℕ). ViewsAt z m) with ∙ ap (λ (z : ℕ). ViewsAt (new_run k).list z) at

  -- they stand in the contribution of their list
  run_together : (k : ℕ) → k < length r.views → AreTogether s.links.locations (new_run k).list (new_run k).at
  run_together k inside some =
      let run = all.views.read (slice_index all.views.numbers k) (all.views.inside k inside) in
      let begins = ((all.lists Locations).each run.k (subst (λ (z : ℕ). run.k < z) (all.lists Locations).count run.inside)).begins in
      ((list_at s.location_lists run.k).part, subst (IsListPlace s.links.locations (list_at s.location_lists run.k).part) run.with begins, run.begins)

  -- so what names view pairs names them at their new place
  pub views_follow : (u id n new : ℕ) (linked : Linked) → u < length r.links.units → id < length (unit_at r.links u).forest.entries → IsNewOffset new_places linked new → ViewLinks r.links u id n linked → (now : Linked) × IsLinkMoved new_places linked now × ViewLinks s.links u id new now
  views_follow u id n new linked inside known is (list, first, together, e) =
      let views : AreViewsMoved new_places.views.items list n new = subst (λ (z : Linked). IsNewOffset new_places z new) e is in
      let (k, run) = moved_run list n new views in
      let each = all.views.each k run.inside in
      let located = located_stays u id list inside known first in
      let place : list ≡ old_at all Locations each.list = run.with ∙ each.from in
      let one : located.k ≡ each.list = old_once all Locations located.k each.list located.inside each.inside (sym located.from ∙ place) in
      let with : new_at all Locations located.k ≡ (new_run k).list = ap (new_at all Locations) one ∙ sym each.to in
      let list_moved : IsMovedTo (moved_lists new_places Locations) list (new_run k).list =
      subst (λ (z : ℕ). IsMovedTo (moved_lists new_places Locations) z (new_run k).list) (sym place) (subst (IsMovedTo (moved_lists new_places Locations) (old_at all Locations each.list)) (sym each.to) (list_moves all Locations each.list each.inside)) in (
        ViewsAt (new_run k).list new,
        subst (λ (z : Linked). IsLinkMoved new_places z (ViewsAt (new_run k).list new)) (sym e) ((new_run k).list, new, list_moved, views, refl),
        ((new_run k).list, subst (IsFirstLocated s.links u id) with located.to, subst (AreTogether s.links.locations (new_run k).list) (sym run.to) (run_together k run.inside), refl),
      )

  -- THE OTHER WAY ROUND

  -- what an old value referred to, where the new one names view pairs for a list
  pub record NamedARun (LinksTo : Linked → Type 0) (list at k : ℕ) : Type 0 where
    pub inside : k < length r.views
    pub links : LinksTo (ViewsAt (view_at r.views k).list (view_at r.views k).at)
    pub with : list ≡ (new_run k).list
    pub here : at ≡ (new_run k).at

  pub views_named : (u id n new list at : ℕ) (w : Linked) → u < length r.links.units → id < length (unit_at r.links u).forest.entries → ViewLinks s.links u id new (ViewsAt list at) → ViewLinks r.links u id n w → IsNewOffset new_places w new → (k : ℕ) × NamedARun (ViewLinks r.links u id n) list at k
  views_named u id n new list at w inside known (now, there, _, f) (was, first, together, e) is =
      let views : AreViewsMoved new_places.views.items was n new = subst (λ (z : Linked). IsNewOffset new_places z new) e is in
      let (k, run) = moved_run was n new views in
      let each = all.views.each k run.inside in
      let located = located_stays u id was inside known first in
      let one : located.k ≡ each.list = old_once all Locations located.k each.list located.inside each.inside (sym located.from ∙ run.with ∙ each.from) in
      let l_same : list ≡ now = cc (f) in
      let at_same : at ≡ new = cc (f) in
      let same : ViewsAt was n ≡ ViewsAt (view_at r.views k).list (view_at r.views k).at = ap (λ (z : ℕ). ViewsAt z n) run.with ∙ ap (λ (z : ℕ). ViewsAt (view_at r.views k).list z) run.from in (
        k,
        record {
          inside = run.inside;
          links = subst (ViewLinks r.links u id n) same (was, first, together, refl);
          with = l_same ∙ located.once now there ∙ ap (new_at all Locations) one ∙ sym each.to;
          here = at_same ∙ run.to;
        },
      )
