-- The view pairs of a file that is written anew are read, are no more than the old ones, and stand as they are to stand.
use Rattle.std.proofs.Common.{◌≡◌, ◌≤◌, ◌<◌, ◌+◌, ◌∙◌, inl, inr, ℕ, zero, suc, List, length, take, get_or, sym, ap, subst, arith}
use Rattle.std.specs.Prelude.{slice_index}
use Rattle.std.proofs.lemmas.Bool.{cases_lt}
use Rattle.std.proofs.lemmas.List.{get_or-take, length-take-le, take-take, take_all}
use Rattle.std.proofs.lemmas.List.Sums.{sum_by_more, sum_by_more_le}
use Rattle.dw_base.specs.declared.classes.Classes.{Classes}
use Rattle.list_model.specs.declared.entry.ListKind.TheVariants.{Locations}
use Rattle.list_model.specs.Entries.{AreSaid}
use Rattle.unit_write.specs.declared.places.Places.{Places}
use Rattle.value_links.specs.Reading.{ViewRead, Reading, view_at}
use Rattle.value_links.specs.Lists.{pair_total, AreViewsNamed, AreViewsOf, AreViewsRead}
use Rattle.written_files.specs.TidyLists.{AreTidyViews}
use Rattle.value_links.specs.World.{World}
use Rattle.rewriter.specs.declared.tables.NewTable.{NewTable}
use Rattle.rewriter.specs.declared.new_places.NewPlaces.{NewPlaces}
use Rattle.rewriter.specs.inside.Follows.{AreReadAnew}
use Rattle.rewriter.proofs.MovedLists.{new_at, old_inside, old_once, new_once}
use Rattle.rewriter.proofs.MovedViews.{new_run}
use Rattle.rewriter.proofs.ListNames.{view_value_stays, views_named_stay, views_named_came}
use Rattle.rewriter.proofs.FrozenLists.{old_list, are_told, anew}
use Rattle.rewriter.proofs.PairCounts.{pairs_stay}

-- TOTALS

-- how many pairs the run with a number has
abbrev pairs_in : List ViewRead → ℕ → ℕ
pairs_in views k = length (view_at views k).pairs

-- the first runs and one of those behind them have no more pairs than the runs up to there
total_more : (views : List ViewRead) (k n : ℕ) → k < n → n ≤ length views → pair_total (take k views) + pairs_in views k ≤ pair_total (take n views)
total_more views k n less inside =
    let none : ViewRead = view_at (take 0 views) 0 in
    let size : length (take n views) ≡ n = length-take-le n views inside in
    let more : pair_total (take k (take n views)) + length (get_or (take n views) k none).pairs ≤ pair_total (take n views) = sum_by_more_le (λ (view : ViewRead). length view.pairs) (take n views) k none (omega (arith, size, less)) in
    let front : pair_total (take k (take n views)) ≡ pair_total (take k views) = ap (λ (z : List ViewRead). pair_total z) (take-take k n views (omega (arith, less))) in
    let same : length (get_or (take n views) k none).pairs ≡ pairs_in views k = ap (λ (z : ViewRead). length z.pairs) (get_or-take n views k none less) in
    omega (arith, more, front, same)

-- Where each of the new runs is one of the old ones, in their order, the first ones have no more pairs than the old ones up to there.
module _ (old new : List ViewRead) (numbers : ℕ → ℕ) (rising : (j k : ℕ) → j < k → k < length old → numbers j ≤ numbers k) (same : (k : ℕ) → k < length old → pairs_in new (numbers k) ≡ pairs_in old k) (all : (n : ℕ) → n < length new → (k : ℕ) × (k < length old) × (numbers k ≡ n)) where
  -- a run stands before another where its number does
  stands_before : (j k : ℕ) → j < length old → numbers j < numbers k → j < k
  stands_before j k inside less = elim (cases_lt j k) [
    | inl before ↦ before
    | inr behind ↦ elim (cases_lt k j) [
      | inl after ↦ (let rises = rising k j after inside in absurd (omega (arith, rises, less)))
      | inr most ↦ (let here : j ≡ k = omega (arith, behind, most) in let e : numbers j ≡ numbers k = ap numbers here in absurd (omega (arith, e, less)))
    ]
  ]

  total_up_to : (n k : ℕ) → n ≤ length new → k ≤ length old → ((m : ℕ) → m < n → (j : ℕ) × (j < k) × (numbers j ≡ m)) → pair_total (take n new) ≤ pair_total (take k old)
  total_up_to zero k inside known each = omega arith
  total_up_to (suc n) k inside known each =
      let (j, below, is) = each n (omega arith) in
      let j_in : j < length old = omega (arith, below, known) in
      let rest : pair_total (take n new) ≤ pair_total (take j old) = total_up_to n j (omega (arith, inside)) (omega (arith, j_in)) (λ m less. (
      let (i, i_in, at) = each m (omega (arith, less)) in
      (i, stands_before i j (omega (arith, i_in, known)) (omega (arith, at, is, less)), at)
      )) in
      let last : pair_total (take (n + 1) new) ≡ pair_total (take n new) + pairs_in new n = sum_by_more (λ (view : ViewRead). length view.pairs) new n (view_at (take 0 new) 0) (omega (arith, inside)) in
      let next : pair_total (take (n + 1) new) ≡ pair_total (take (suc n) new) = ap (λ (z : ℕ). pair_total (take z new)) (let e : n + 1 ≡ suc n = omega arith in e) in
      let own : pairs_in new n ≡ pairs_in old j = ap (pairs_in new) (sym is) ∙ same j j_in in
      let most : pair_total (take j old) + pairs_in old j ≤ pair_total (take k old) = total_more old j k below known in
      omega (arith, rest, last, next, own, most)

  pub total_few : pair_total new ≤ pair_total old
  total_few =
      let most : pair_total (take (length new) new) ≤ pair_total (take (length old) old) = total_up_to (length new) (length old) (omega arith) (omega arith) all in
      let news : pair_total (take (length new) new) ≡ pair_total new = ap (λ (z : List ViewRead). pair_total z) (take_all (length new) new (omega arith)) in
      let olds : pair_total (take (length old) old) ≡ pair_total old = ap (λ (z : List ViewRead). pair_total z) (take_all (length old) old (omega arith)) in
      omega (arith, most, news, olds)

-- ALL RUNS

module _ {classes : Classes} {file : List ℕ} {world : World} {tables : List NewTable} {places : List Places} {new_places : NewPlaces} {info abbrevs : List ℕ} {r s : Reading} (all : AreReadAnew classes file world tables places new_places info abbrevs r s) where
  -- runs stay in their order
  numbers_rise : (j k : ℕ) → j < k → k < length r.views → slice_index all.views.numbers j ≤ slice_index all.views.numbers k
  numbers_rise j k less inside = elim (all.views.order j k less inside) [
    | inl below ↦ omega (arith, below)
    | inr (here, none) ↦ omega (arith, here)
  ]

  -- there are no more pairs than before
  pub pairs_few : pair_total s.views ≤ pair_total r.views
  pairs_few = total_few r.views s.views (λ (k : ℕ). slice_index all.views.numbers k) numbers_rise (λ k inside. ap length (all.views.each k inside).pairs) all.views.all

  -- a run has as many pairs as its list has entries with bounds
  read_anew : (n : ℕ) → n < length s.views → AreViewsOf s.links s.location_lists (view_at s.views n)
  read_anew n there =
      let (k, inside, is) = all.views.all n there in
      let here : new_run all k ≡ view_at s.views n = ap (view_at s.views) is in
      let moved = all.views.each k inside in
      let run = all.views.read n there in
      let was = all.read.views.each k inside in
      let j_in : run.k < length r.location_lists = old_inside all Locations run.k run.inside in
      let with : new_at all Locations moved.list ≡ new_at all Locations run.k = sym moved.to ∙ ap (λ (z : ViewRead). z.list) here ∙ sym run.with in
      let list : moved.list ≡ run.k = new_once all Locations moved.list run.k moved.inside j_in with in
      let old : was.k ≡ run.k = old_once all Locations was.k moved.list was.inside moved.inside (was.at ∙ moved.from) ∙ list in
      let said : AreSaid Locations (old_list all Locations run.k).raws was.entries = subst (λ (z : ℕ). AreSaid Locations (old_list all Locations z).raws was.entries) old was.said in
      let list_anew = anew all Locations run.k j_in in
      record {
        named = subst (λ (z : ViewRead). AreViewsNamed s.links z.list z.at) here (views_named_stay all k inside);
        k = run.k;
        inside = run.inside;
        at = run.with;
        entries = list_anew.entries;
        said = list_anew.said;
        counted = ap (λ (z : ViewRead). length z.pairs) (sym here) ∙ ap length moved.pairs ∙ was.counted ∙ sym (pairs_stay r Locations (all.read.lists Locations) run.k j_in was.entries list_anew.entries said (list_anew.same was.entries said) (are_told all Locations run.k j_in));
        read = run.stands;
      }

  -- the new runs are those that something names
  pub views_stay : AreViewsRead s.links s.location_lists s.views
  views_stay = record {
    rising = all.views.rising;
    each = read_anew;
    all = λ list at named.
        let (k, inside, list_is, at_is) = views_named_came all list at named in
        (slice_index all.views.numbers k, all.views.inside k inside, sym list_is, sym at_is);
  }

  -- each is one of the old ones, in their order, and each value that named one names it
  pub tidy_views : AreTidyViews r s
  tidy_views = record {
    numbers = all.views.numbers;
    count = all.views.numbered;
    inside = all.views.inside;
    order = all.views.order;
    all = all.views.all;
    each = all.views.each;
    values = view_value_stays all;
  }
