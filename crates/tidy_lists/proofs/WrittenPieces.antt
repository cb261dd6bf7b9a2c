-- The contributions of a file that is written anew, by the numbers of their lists and runs of view pairs: what is filled holds the old ones.
use Rattle.std.proofs.Common.{◌≡◌, ◌<◌, ◌+◌, ◌∙◌, inl, inr, ℕ, List, [], length, map, sym, ap, subst, arith}
use Rattle.std.specs.Prelude.{filter, nat_eq, slice_index}
use Rattle.std.specs.List.{range_with_len}
use Rattle.std.proofs.lemmas.Bool.{cases_eq, eqb-true, eq-eqb, ne_eqb}
use Rattle.list_model.specs.declared.entry.ListKind.{ListKind}
use Rattle.list_model.specs.declared.entry.ListKind.TheVariants.{Locations}
use Rattle.list_model.specs.Contributions.{lists_at}
use Rattle.value_links.specs.Reading.{ListRead, ViewRead, Reading, of_kind, lists_of, part_at, list_at, view_at}
use Rattle.written_files.specs.TidyLists.{RunsStand, Fill, IsFilled, views_with, AreTidyLists}
use Rattle.tidy_lists.specs.Followers.{IsPartOfRun}
use Rattle.tidy_lists.specs.Due.{lists_in, runs_with}
use Rattle.tidy_lists.proofs.FilterLaws.{IsOneOf, kept}
use Rattle.tidy_lists.proofs.NumberedFilters.{numbered_filter, filter_alike, in_range}
use Rattle.tidy_lists.proofs.WrittenNumbers.{AreKept, with_list, of_list}
use Rattle.tidy_lists.proofs.WrittenRuns.{IsWalk, filter_walk, whole_walk}

-- runs with these numbers stand one behind the other
abbrev pub RunsAt : Reading → ℕ → List ℕ → ℕ → ℕ → Type 0
RunsAt s p ns at end = RunsStand s.links.locations.section (part_at s.links.locations p) (map (view_at s.views) ns) at end

-- so do lists with these numbers, each behind its runs
abbrev pub ListsAt : ListKind → Reading → ℕ → List ℕ → ℕ → Type 0
ListsAt kind s p ks at = Fill kind s.views (of_kind s.links kind).section (part_at (of_kind s.links kind) p) (map (list_at (lists_of s kind)) ks) at

-- these are numbers of runs in a contribution
abbrev pub AreRunsIn : Reading → ℕ → List ℕ → Type 0
AreRunsIn s p ns = (n : ℕ) → IsOneOf n ns → (n < length s.views) × IsPartOfRun s (view_at s.views n) p

-- and these those of its lists
abbrev pub AreListsIn : ListKind → Reading → ℕ → List ℕ → Type 0
AreListsIn kind s p ks = (k : ℕ) → IsOneOf k ks → (k < length (lists_of s kind)) × ((list_at (lists_of s kind) k).part ≡ p)

-- LISTS

module _ (kind : ListKind) (s : Reading) (p : ℕ) where
  -- the lists of a contribution are those with these numbers
  lists_numbered : filter (λ (list : ListRead). nat_eq list.part p) (lists_of s kind) ≡ map (list_at (lists_of s kind)) (lists_in s kind p)
  lists_numbered = numbered_filter (lists_of s kind) (record { at = 0; part = 0; raws = [] }) (λ (list : ListRead). nat_eq list.part p)

  pub lists_there : AreListsIn kind s p (lists_in s kind p)
  lists_there k one =
      let (low, high, passes) = kept (λ (i : ℕ). nat_eq (list_at (lists_of s kind) i).part p) 0 (length (lists_of s kind)) k one in
      (omega (arith, high), eqb-true (list_at (lists_of s kind) k).part p passes)

  -- so these fill it
  pub filled_numbered : IsFilled kind s p → ListsAt kind s p (lists_in s kind p) (lists_at (part_at (of_kind s.links kind) p))
  filled_numbered filled =
      let section : List ℕ = (of_kind s.links kind).section in
      let start : ℕ = lists_at (part_at (of_kind s.links kind) p) in
      subst (λ (z : List ListRead). Fill kind s.views section (part_at (of_kind s.links kind) p) z start) lists_numbered filled

-- they are the numbers of the old lists of this contribution
pub lists_same : (kind : ListKind) (r s : Reading) → AreTidyLists kind r s → (p : ℕ) → lists_in s kind p ≡ lists_in r kind p
lists_same kind r s tidy p =
    let here : ℕ → ℕ = λ k. (list_at (lists_of s kind) k).part in
    let there : ℕ → ℕ = λ k. (list_at (lists_of r kind) k).part in
    filter_alike (λ (k : ℕ). nat_eq (here k) p) (λ (k : ℕ). nat_eq (there k) p) 0 (length (lists_of s kind))
    (λ k low high. ap (λ (z : ℕ). nat_eq z p) (tidy.part k (omega (arith, high, tidy.lists))))
    ∙ ap (λ (z : ℕ). filter (λ (k : ℕ). nat_eq (there k) p) (range_with_len 0 z)) tidy.lists

-- RUNS

module _ (s : Reading) (k : ℕ) where
  abbrev goes_here : ViewRead → Type 0
  goes_here run = run.list ≡ (list_at s.location_lists k).at

  -- the runs that go with a list are those with these numbers
  pub runs_numbered : views_with Locations s.views (list_at s.location_lists k) ≡ map (view_at s.views) (runs_with s Locations k)
  runs_numbered =
      numbered_filter s.views (record { list = 0; at = 0; pairs = [] }) (λ (run : ViewRead). nat_eq run.list (list_at s.location_lists k).at)

  -- they are in its contribution
  pub runs_there : (p : ℕ) → k < length s.location_lists → (list_at s.location_lists k).part ≡ p → AreRunsIn s p (runs_with s Locations k)
  runs_there p inside part n one =
      let (low, high, passes) = kept (λ (i : ℕ). nat_eq (view_at s.views i).list (list_at s.location_lists k).at) 0 (length s.views) n one in
      let with : goes_here (view_at s.views n) = eqb-true (view_at s.views n).list (list_at s.location_lists k).at passes in
      (omega (arith, high), record { k = k; inside = inside; list = sym with; part = part })

-- the written run that an old one is has no pairs
abbrev pub IsBare : Reading → List ℕ → ℕ → Type 0
IsBare s numbers j = (view_at s.views (slice_index numbers j)).pairs ≡ []

module _ (file written : List ℕ) (r s : Reading) (are : AreKept file written r s) where
  abbrev number : ℕ → ℕ
  number = slice_index are.views.numbers

  abbrev IsEmpty : ℕ → Type 0
  IsEmpty = IsBare s are.views.numbers

  -- runs that are one have no pairs, since the later one has none
  bare_too : (j k : ℕ) → k < length r.views → number j ≡ number k → (view_at r.views k).pairs ≡ [] → IsEmpty j
  bare_too j k known same bare = ap (λ (z : ℕ). (view_at s.views z).pairs) same ∙ (are.views.each k known).pairs ∙ bare

  all_walk : IsWalk number IsEmpty (range_with_len 0 (length r.views)) (range_with_len 0 (length s.views))
  all_walk = whole_walk number IsEmpty (length r.views) (length s.views) (record {
    inside = are.views.inside;
    order = λ j k less known. elim (are.views.order j k less known) [
      | inl below ↦ inl below
      | inr (same, bare) ↦ inr (same, bare_too j k known same bare)
    ];
    all = are.views.all;
  })

  -- a run goes with a list in both files, or in neither
  agree : (j k : ℕ) → j < length r.views → k < length r.location_lists →
      nat_eq (view_at r.views j).list (list_at r.location_lists k).at ≡ nat_eq (view_at s.views (number j)).list (list_at s.location_lists k).at
  agree j k known inside =
      let old : ℕ = (view_at r.views j).list in
      let new : ℕ = (view_at s.views (number j)).list in
      elim (cases_eq old (list_at r.location_lists k).at) [
        | inl e ↦
            let there : new ≡ (list_at s.location_lists k).at = with_list file written r s are j k known inside e in
            eq-eqb old (list_at r.location_lists k).at e ∙ sym (eq-eqb new (list_at s.location_lists k).at there)
        | inr apart ↦
            ne_eqb old (list_at r.location_lists k).at apart
            ∙ sym (ne_eqb new (list_at s.location_lists k).at (λ e. apart (of_list file written r s are j k known inside e)))
      ]

  -- the old runs that go with a list walk along the written ones that go with the list of its number
  pub runs_walk : (k : ℕ) → k < length r.location_lists →
      IsWalk (slice_index are.views.numbers) (IsBare s are.views.numbers) (runs_with r Locations k) (runs_with s Locations k)
  runs_walk k inside =
      filter_walk number IsEmpty (λ (j : ℕ). nat_eq (view_at r.views j).list (list_at r.location_lists k).at)
      (λ (n : ℕ). nat_eq (view_at s.views n).list (list_at s.location_lists k).at)
      (range_with_len 0 (length r.views)) (range_with_len 0 (length s.views))
      (λ j one. (let below : j < 0 + length r.views = in_range 0 (length r.views) j one in agree j k (omega (arith, below)) inside))
      all_walk
