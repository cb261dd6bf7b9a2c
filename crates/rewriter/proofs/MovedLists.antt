-- Where the lists of a kind stand of a file that is written anew.
use Rattle.std.proofs.Common.{◌≡◌, ◌<◌, ◌∙◌, inl, inr, ℕ, length, sym, ap, subst, arith}
use Rattle.std.proofs.lemmas.Bool.{cases_lt}
use Rattle.std.specs.Prelude.{List}
use Rattle.dw_base.specs.declared.classes.Classes.{Classes}
use Rattle.list_model.specs.declared.entry.ListKind.{ListKind}
use Rattle.list_model.specs.declared.entry.ListKind.TheVariants.{Locations}
use Rattle.unit_write.specs.declared.places.Places.{Places}
use Rattle.value_links.specs.Reading.{Reading, of_kind, lists_of, list_at, part_at}
use Rattle.value_links.specs.ListPlaces.{IsListPlace, SlotNames}
use Rattle.value_links.specs.Linked.{Linked}
use Rattle.value_links.specs.Linked.Linked.{ListAt, ViewsAt}
use Rattle.value_links.specs.World.{World}
use Rattle.rewriter.specs.declared.tables.NewTable.{NewTable}
use Rattle.rewriter.specs.declared.new_places.NewPlaces.{NewPlaces}
use Rattle.rewriter.specs.inside.NewPlaces.{moved_lists, IsMovedTo, AreViewsMoved}
use Rattle.rewriter.specs.inside.Follows.{AreReadAnew}

-- of numbers that rise no two are the same
pub number_once : (at : ℕ → ℕ) (count : ℕ) → ((j k : ℕ) → j < k → k < count → at j < at k) → (j k : ℕ) → j < count → k < count → at j ≡ at k → j ≡ k
number_once at count rising j k j_in k_in same = elim (cases_lt j k) [
  | inl less ↦ absurd (let below : at j < at k = rising j k less k_in in omega arith)
  | inr rest ↦ elim (cases_lt k j) [
    | inl less ↦ absurd (let below : at k < at j = rising k j less j_in in omega arith)
    | inr more ↦ omega arith
  ]
]

-- what a value refers to that referred to something: a list or view pairs at their new places, or the same
abbrev pub IsLinkMoved : NewPlaces → Linked → Linked → Type 0
IsLinkMoved places (ListAt kind n) new = (m : ℕ) × IsMovedTo (moved_lists places kind) n m × (new ≡ ListAt kind m)
IsLinkMoved places (ViewsAt list n) new = (l : ℕ) × (m : ℕ) × IsMovedTo (moved_lists places Locations) list l × AreViewsMoved places.views.items list n m × (new ≡ ViewsAt l m)
IsLinkMoved places linked new = new ≡ linked

module _ {classes : Classes} {file : List ℕ} {world : World} {tables : List NewTable} {places : List Places} {new_places : NewPlaces} {info abbrevs : List ℕ} {r s : Reading} (all : AreReadAnew classes file world tables places new_places info abbrevs r s) (kind : ListKind) where
  -- where a list began, and where it begins
  abbrev pub old_at : ℕ → ℕ
  old_at k = (list_at (lists_of r kind) k).at

  abbrev pub new_at : ℕ → ℕ
  new_at k = (list_at (lists_of s kind) k).at

  -- a list by its number, with both places
  pub record IsMovedList (n m k : ℕ) : Type 0 where
    pub inside : k < length (lists_of r kind)
    pub from : n ≡ old_at k
    pub to : m ≡ new_at k

  pub new_inside : (k : ℕ) → k < length (lists_of r kind) → k < length (lists_of s kind)
  new_inside k inside = subst (λ (z : ℕ). k < z) (sym (all.lists kind).count) inside

  pub old_inside : (k : ℕ) → k < length (lists_of s kind) → k < length (lists_of r kind)
  old_inside k inside = subst (λ (z : ℕ). k < z) (all.lists kind).count inside

  pub list_moves : (k : ℕ) → k < length (lists_of r kind) → IsMovedTo (moved_lists new_places kind) (old_at k) (new_at k)
  list_moves k inside = record { number = k; inside = subst (λ (z : ℕ). k < z) (sym (all.lists kind).moves) inside; from = (all.lists kind).from k inside; to = (all.lists kind).to k inside }

  pub moved_list : (n m : ℕ) → IsMovedTo (moved_lists new_places kind) n m → (k : ℕ) × IsMovedList n m k
  moved_list n m moves =
      let inside : moves.number < length (lists_of r kind) = subst (λ (z : ℕ). moves.number < z) (all.lists kind).moves moves.inside in
      (moves.number, record { inside = inside; from = sym moves.from ∙ (all.lists kind).from moves.number inside; to = sym moves.to ∙ (all.lists kind).to moves.number inside })

  -- each of the two places tells the other
  pub old_once : (j k : ℕ) → j < length (lists_of r kind) → k < length (lists_of r kind) → old_at j ≡ old_at k → j ≡ k
  old_once j k j_in k_in same = number_once old_at (length (lists_of r kind)) (all.read.lists kind).rising j k j_in k_in same

  pub new_once : (j k : ℕ) → j < length (lists_of r kind) → k < length (lists_of r kind) → new_at j ≡ new_at k → j ≡ k
  new_once j k j_in k_in same = number_once new_at (length (lists_of s kind)) (all.lists kind).rising j k (new_inside j j_in) (new_inside k k_in) same

  pub moved_from : (k n m : ℕ) → k < length (lists_of r kind) → IsMovedTo (moved_lists new_places kind) n m → n ≡ old_at k → m ≡ new_at k
  moved_from k n m inside moves here =
      let (j, is) = moved_list n m moves in
      is.to ∙ ap new_at (old_once j k is.inside inside (sym is.from ∙ here))

  pub moved_to : (k n m : ℕ) → k < length (lists_of r kind) → IsMovedTo (moved_lists new_places kind) n m → m ≡ new_at k → n ≡ old_at k
  moved_to k n m inside moves here =
      let (j, is) = moved_list n m moves in
      is.from ∙ ap old_at (new_once j k is.inside inside (sym is.to ∙ here))

  -- SLOTS

  -- a slot names the list that it named
  pub slot_stays : (p i k : ℕ) → k < length (lists_of r kind) → SlotNames (of_kind r.links kind) p i (old_at k) → SlotNames (of_kind s.links kind) p i (new_at k)
  slot_stays p i k inside names = (all.lists kind).named p i k inside names

  -- the list that a slot names, and named
  pub record WasNamedBy (p i at k : ℕ) : Type 0 where
    pub inside : k < length (lists_of r kind)
    pub from : SlotNames (of_kind r.links kind) p i (old_at k)
    pub to : at ≡ new_at k

  pub slot_inside : (p i : ℕ) → p < length (of_kind s.links kind).parts → i < (part_at (of_kind s.links kind) p).slots → (p < length (of_kind r.links kind).parts) × (i < (part_at (of_kind r.links kind) p).slots)
  slot_inside p i p_in i_in =
      let known : p < length (of_kind r.links kind).parts = subst (λ (z : ℕ). p < z) (all.lists kind).parts p_in in
      (known, subst (λ (z : ℕ). i < z) ((all.lists kind).slots p known) i_in)

  pub slot_named : (p i : ℕ) → p < length (of_kind r.links kind).parts → i < (part_at (of_kind r.links kind) p).slots → (k : ℕ) × (k < length (lists_of r kind)) × SlotNames (of_kind r.links kind) p i (old_at k)
  slot_named p i p_in i_in =
      let (at, names) = (all.read.lists kind).slots p i p_in i_in in
      let (k, inside, here) = (all.read.lists kind).all at (inr (p, i, names)) in
      (k, inside, subst (SlotNames (of_kind r.links kind) p i) (sym here) names)

  pub slot_came : (p i at : ℕ) → SlotNames (of_kind s.links kind) p i at → (k : ℕ) × WasNamedBy p i at k
  slot_came p i at (slot, _) =
      let (p_in, i_in) = slot_inside p i slot.known slot.counted in
      let (k, inside, names) = slot_named p i p_in i_in in
      let now = slot_stays p i k inside names in
      (k, record { inside = inside; from = names; to = slot.tells ∙ sym now.0.tells })

  -- LISTS

  -- a list begins at its new place
  pub begins_anew : (k : ℕ) → k < length (lists_of r kind) → (q : ℕ) × IsListPlace (of_kind s.links kind) q (new_at k)
  begins_anew k inside = ((list_at (lists_of s kind) k).part, ((all.lists kind).each k inside).begins)
