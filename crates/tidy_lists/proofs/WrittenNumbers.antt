-- The lists and view pairs of a file that is written anew are those of the old file by their numbers: the list that an old one is has its
-- number, and so has the run of view pairs, by the numbers that are told.
use Rattle.std.proofs.Common.{◌≡◌, ◌<◌, ◌∙◌, inl, inr, ℕ, List, length, sym, subst, arith}
use Rattle.std.specs.Prelude.{slice_index}
use Rattle.std.proofs.lemmas.Bool.{cases_order}
use Rattle.list_model.specs.declared.entry.ListKind.{ListKind}
use Rattle.list_model.specs.declared.entry.ListKind.TheVariants.{Locations}
use Rattle.value_links.specs.Linked.{IsLinked}
use Rattle.value_links.specs.Linked.Linked.{ListAt, ViewsAt}
use Rattle.value_links.specs.Lists.{AreViewsApart}
use Rattle.value_links.specs.ListPlaces.{SlotNames}
use Rattle.value_links.specs.Reading.{ListRead, ViewRead, Reading, of_kind, lists_of, list_at, view_at}
use Rattle.value_links.specs.Whole.{IsReading}
use Rattle.value_links.proofs.LinksOnce.{linked_value_once}
use Rattle.written_files.specs.TidyLists.{AreTidyLists, AreTidyViews}
use Rattle.tidy_lists.specs.Followers.{Follows, RunFollows, IsPartOfRun}
use Rattle.tidy_lists.proofs.OneLength.{list_number}

-- both files are read, and the lists and view pairs of the written one are those of the old one
pub record AreKept (file written : List ℕ) (r s : Reading) : Type 0 where
  pub read : IsReading file r
  pub again : IsReading written s
  pub lists : (kind : ListKind) → AreTidyLists kind r s
  pub views : AreTidyViews r s

apart_places : (a b : ViewRead) → AreViewsApart a b → a.list ≡ b.list → a.at ≡ b.at → ⊥
apart_places a b (inl less) list at = omega (arith, less, list)
apart_places a b (inr (same, less)) list at = omega (arith, less, at)

-- WHAT ONE VALUE AND ONE SLOT NAME

module _ (written : List ℕ) (s : Reading) (again : IsReading written s) where
  -- a run of view pairs is told by the place of its list and its own
  run_number : (m n : ℕ) → m < length s.views → n < length s.views → (view_at s.views m).list ≡ (view_at s.views n).list →
      (view_at s.views m).at ≡ (view_at s.views n).at → m ≡ n
  run_number m n m_in n_in list at = elim (cases_order m n) [
    | inl e ↦ e
    | inr (inl less) ↦ absurd (apart_places (view_at s.views m) (view_at s.views n) (again.views.rising m n less n_in) list at)
    | inr (inr more) ↦ absurd (apart_places (view_at s.views n) (view_at s.views m) (again.views.rising n m more m_in) (sym list) (sym at))
  ]

  same_list : (kind : ListKind) (u number a b : ℕ) → IsLinked s.links u number (ListAt kind a) → IsLinked s.links u number (ListAt kind b) → a ≡ b
  same_list kind u number a b one two =
      let same : ListAt kind a ≡ ListAt kind b = linked_value_once written s.links u number (ListAt kind a) (ListAt kind b) again.links one two in
      cc

  same_slot : (kind : ListKind) (p i a b : ℕ) → SlotNames (of_kind s.links kind) p i a → SlotNames (of_kind s.links kind) p i b → a ≡ b
  same_slot kind p i a b one two = one.0.tells ∙ sym two.0.tells

  same_run : (u number l m a b : ℕ) → IsLinked s.links u number (ViewsAt l a) → IsLinked s.links u number (ViewsAt m b) → (l ≡ m) × (a ≡ b)
  same_run u number l m a b one two =
      let same : ViewsAt l a ≡ ViewsAt m b = linked_value_once written s.links u number (ViewsAt l a) (ViewsAt m b) again.links one two in
      (cc, cc)

-- NUMBERS

module _ (file written : List ℕ) (r s : Reading) (are : AreKept file written r s) where
  abbrev list_in : ListKind → ℕ → ListRead
  list_in kind k = list_at (lists_of s kind) k

  -- the number of the written run that an old one is
  abbrev number : ℕ → ℕ
  number = slice_index are.views.numbers

  -- a list of the old file is one of the written file
  pub list_known : (kind : ListKind) (k : ℕ) → k < length (lists_of r kind) → k < length (lists_of s kind)
  list_known kind k inside = subst (λ (z : ℕ). k < z) (sym (are.lists kind).lists) inside

  -- the written list that an old one is has its number
  pub list_kept : (kind : ListKind) (k m : ℕ) → Follows kind r s k m → m ≡ k
  list_kept kind k m is =
      let tidy = are.lists kind in
      let same : (list_in kind m).at ≡ (list_in kind k).at = elim is.by [
        | inl (u, value, inside, old, new) ↦
            same_list written s are.again kind u value (list_in kind m).at (list_in kind k).at new (tidy.values u value k inside is.known old)
        | inr (p, i, old, new) ↦
            same_slot written s are.again kind p i (list_in kind m).at (list_in kind k).at new (tidy.named p i k is.known old)
      ] in
      list_number (lists_of s kind) (are.again.lists kind).rising m k is.inside (list_known kind k is.known) same

  -- the written run that an old one is has the number that is told
  pub run_kept : (j n : ℕ) → RunFollows r s j n → n ≡ number j
  run_kept j n is =
      let one : ViewRead = view_at s.views n in
      let other : ViewRead = view_at s.views (number j) in
      let told = are.views.values is.u is.number j is.unit is.known is.old in
      let (list, at) = same_run written s are.again is.u is.number one.list other.list one.at other.at is.new told in
      run_number written s are.again n (number j) is.inside (are.views.inside j is.known) list at

  -- an old run that goes with a list goes with the list of its number in the written file
  pub with_list : (j k : ℕ) → j < length r.views → k < length r.location_lists → (view_at r.views j).list ≡ (list_at r.location_lists k).at →
      (view_at s.views (number j)).list ≡ (list_at s.location_lists k).at
  with_list j k known inside with =
      let moved = are.views.each j known in
      let same : moved.list ≡ k =
      list_number r.location_lists (are.read.lists Locations).rising moved.list k moved.inside inside (sym moved.from ∙ with) in
      subst (λ (z : ℕ). (view_at s.views (number j)).list ≡ (list_at s.location_lists z).at) same moved.to

  -- and no other run does
  pub of_list : (j k : ℕ) → j < length r.views → k < length r.location_lists → (view_at s.views (number j)).list ≡ (list_at s.location_lists k).at →
      (view_at r.views j).list ≡ (list_at r.location_lists k).at
  of_list j k known inside with =
      let moved = are.views.each j known in
      let first : moved.list < length s.location_lists = list_known Locations moved.list moved.inside in
      let second : k < length s.location_lists = list_known Locations k inside in
      let same : moved.list ≡ k = list_number s.location_lists (are.again.lists Locations).rising moved.list k first second (sym moved.to ∙ with) in
      subst (λ (z : ℕ). (view_at r.views j).list ≡ (list_at r.location_lists z).at) same moved.from

  -- so it is in the contribution with the old number
  pub part_kept : (j p : ℕ) → j < length r.views → IsPartOfRun r (view_at r.views j) p → IsPartOfRun s (view_at s.views (number j)) p
  part_kept j p known of = record {
    k = of.k;
    inside = list_known Locations of.k of.inside;
    list = sym (with_list j of.k known of.inside (sym of.list));
    part = (are.lists Locations).part of.k of.inside ∙ of.part;
  }
