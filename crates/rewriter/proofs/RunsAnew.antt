-- The view pairs of a written section. Runs stand one after the other before their lists; those of one list that have no pairs are one.
use Rattle.std.proofs.Common.{◌≡◌, ◌≢◌, ◌≤◌, ◌<◌, ◌+◌, ◌-◌, ◌∙◌, ◌⊎◌, ℕ, zero, suc, List, [], ◌∷◌, ◌++◌, length, take, get_or, cond, Bool, true, false, inl, inr, sym, ap, refl, subst, arith}
use Rattle.std.specs.Prelude.{filter, nat_eq, slice_index}
use Rattle.std.specs.List.{All, AllPairs, Contains, sum_by}
use Rattle.std.proofs.lemmas.Bool.{cases_lt, eq-eqb, ne_eqb}
use Rattle.std.proofs.lemmas.List.{length-append, append-nil, nil_from_length, get_or_append_left, get_or-append-add, get_or_default}
use Rattle.std.proofs.lemmas.List.Elements.{All-nil, All-cons, All-head, All-tail, All-weaker, All-append, All-get_or, All-contains, Contains-get_or, Contains-append_left, Contains-append_right, Contains-append_cases, filter-append}
use Rattle.std.proofs.lemmas.List.Kept.{AllPairs-cons}
use Rattle.std.proofs.lemmas.List.Sums.{sum_by-cons}
use Rattle.spelled.specs.Spelled.{Joined}
use Rattle.list_model.specs.declared.contribution.Contribution.{Contribution}
use Rattle.loc_lists.specs.declared.views.ViewPair.{ViewPair}
use Rattle.loc_lists.specs.Views.{ShortestPair}
use Rattle.list_write.specs.declared.image.Moved.{Moved}
use Rattle.list_write.specs.Written.{ToWrite, Run, moved_at, run_at, run_size, pair_size, all_runs, runs_before, run_stretches, Follow, StandsBefore}
use Rattle.list_write.specs.Written.{part_at as new_part_at, list_at as written_at}
use Rattle.value_links.specs.Reading.{ViewRead, view_at}
use Rattle.value_links.specs.Lists.{AreViewsApart}
use Rattle.written_files.specs.TidyLists.{RunsStand}
use Rattle.rewriter.proofs.PickedLists.{choose}

-- ---- runs that stand one after the other

-- the runs of a list that begins at a place now, from the run with a number on
abbrev pub moved_runs : List Moved → ℕ → ℕ → List Run → List ViewRead
moved_runs views list n [] = []
moved_runs views list n (run ∷ runs) = record { list = list; at = (moved_at views n).new; pairs = run.pairs } ∷ moved_runs views list (suc n) runs

pairs_size : (pairs : List ViewPair) (bytes : List ℕ) → Joined ShortestPair pairs bytes → length bytes ≡ sum_by pair_size pairs
pairs_size [] bytes none = ap length none
pairs_size (pair ∷ pairs) bytes (first, rest, spelled, more, is) = omega (arith, ap length is, length-append first rest, spelled.1, pairs_size pairs rest more, sum_by-cons pair_size pair pairs)

pairs_some : (pairs : List ViewPair) (bytes : List ℕ) → 0 < length pairs → Joined ShortestPair pairs bytes → 0 < length bytes
pairs_some [] bytes some joined = absurd (omega arith)
pairs_some (pair ∷ pairs) bytes some (first, rest, ((a, b, one, other, both), size), more, is) = omega (arith, one.0.0.filled, ap length both, length-append a b, ap length is, length-append first rest)

runs_stand : (section : List ℕ) (part : Contribution) (views : List Moved) (list n : ℕ) (runs : List Run) (from to : ℕ) → ((i : ℕ) → i < length runs → StandsBefore section part (moved_at views (n + i)).new (run_at runs i).pairs) → Follow (run_stretches views n runs) from to → RunsStand section part (moved_runs views list n runs) from to
runs_stand section part views list n [] from to each follow = follow
runs_stand section part views list n (run ∷ runs) from to each (here, more) =
    let start : n + 0 ≡ n = omega arith in
    let s = subst (λ (z : ℕ). StandsBefore section part (moved_at views z).new run.pairs) start (each 0 (omega arith)) in
    let there = subst (λ (z : ℕ). StandsBefore section part z run.pairs) here s in
    let size : run_size run ≡ length there.bytes = sym (pairs_size run.pairs there.bytes there.shortest) in
    let rest = runs_stand section part views list (suc n) runs (from + run_size run) to (λ i less. (let next : n + suc i ≡ suc n + i = omega arith in subst (λ (z : ℕ). StandsBefore section part (moved_at views z).new (run_at runs i).pairs) next (each (suc i) (omega arith)))) more in
    (here, (there.bytes, there.rest, there.shortest, there.whole, subst (λ (z : ℕ). RunsStand section part (moved_runs views list (suc n) runs) (from + z) to) size rest))

moved_count : (views : List Moved) (list n : ℕ) (runs : List Run) → length (moved_runs views list n runs) ≡ length runs
moved_count views list n [] = refl
moved_count views list n (run ∷ runs) = ap suc (moved_count views list (suc n) runs)

moved_run : (views : List Moved) (list n : ℕ) (runs : List Run) (i : ℕ) → i < length runs → view_at (moved_runs views list n runs) i ≡ record { list = list; at = (moved_at views (n + i)).new; pairs = (run_at runs i).pairs }
moved_run views list n [] i less = absurd (omega arith)
moved_run views list n (run ∷ runs) zero less = (let start : n ≡ n + 0 = omega arith in ap (λ (z : ℕ). record { list = list; at = (moved_at views z).new; pairs = run.pairs }) start)
moved_run views list n (run ∷ runs) (suc i) less =
    (let next : suc n + i ≡ n + suc i = omega arith in
    moved_run views list (suc n) runs i (omega arith) ∙ ap (λ (z : ℕ). record { list = list; at = (moved_at views z).new; pairs = (run_at runs i).pairs }) next)

moved_list : (views : List Moved) (list n : ℕ) (runs : List Run) → All (λ (run : ViewRead). run.list ≡ list) (moved_runs views list n runs)
moved_list views list n [] = All-nil (λ (run : ViewRead). run.list ≡ list)
moved_list views list n (run ∷ runs) = All-cons (λ (run : ViewRead). run.list ≡ list) (record { list = list; at = (moved_at views n).new; pairs = run.pairs }) (moved_runs views list (suc n) runs) refl (moved_list views list (suc n) runs)

moved_pairs : (views : List Moved) (list n : ℕ) (runs : List Run) (count : ℕ) → All (λ (run : Run). length run.pairs ≡ count) runs → All (λ (run : ViewRead). length run.pairs ≡ count) (moved_runs views list n runs)
moved_pairs views list n [] count each = All-nil (λ (run : ViewRead). length run.pairs ≡ count)
moved_pairs views list n (run ∷ runs) count each =
    All-cons (λ (run : ViewRead). length run.pairs ≡ count) (record { list = list; at = (moved_at views n).new; pairs = run.pairs }) (moved_runs views list (suc n) runs) (All-head (λ (run : Run). length run.pairs ≡ count) run runs each) (moved_pairs views list (suc n) runs count (All-tail (λ (run : Run). length run.pairs ≡ count) run runs each))

-- ---- the runs of one list

-- runs without pairs stand at one place
stand_empty : (section : List ℕ) (part : Contribution) (runs : List ViewRead) (at end : ℕ) → All (λ (run : ViewRead). run.pairs ≡ []) runs → RunsStand section part runs at end → (at ≡ end) × All (λ (run : ViewRead). run.at ≡ at) runs
stand_empty section part [] at end none stands = (stands, All-nil (λ (run : ViewRead). run.at ≡ at))
stand_empty section part (run ∷ runs) at end none (here, (bytes, rest, shortest, whole, more)) =
    let empty : bytes ≡ [] = subst (λ (z : List ViewPair). Joined ShortestPair z bytes) (All-head (λ (run : ViewRead). run.pairs ≡ []) run runs none) shortest in
    let size : length bytes ≡ 0 = ap length empty in
    let later = stand_empty section part runs (at + length bytes) end (All-tail (λ (run : ViewRead). run.pairs ≡ []) run runs none) more in
    let same : at + length bytes ≡ at = omega (arith, size) in
    (sym same ∙ later.0, All-cons (λ (z : ViewRead). z.at ≡ at) run runs here (All-weaker (λ (z : ViewRead). z.at ≡ at + length bytes) (λ (z : ViewRead). z.at ≡ at) (λ z is. is ∙ same) runs later.1))

-- and runs with pairs rise
stand_rises : (section : List ℕ) (part : Contribution) (runs : List ViewRead) (at end : ℕ) → All (λ (run : ViewRead). 0 < length run.pairs) runs → RunsStand section part runs at end → All (λ (run : ViewRead). at ≤ run.at) runs × AllPairs (λ (a b : ViewRead). a.at < b.at) runs
stand_rises section part [] at end some stands = (All-nil (λ (run : ViewRead). at ≤ run.at), λ i j d lt within. absurd (omega arith))
stand_rises section part (run ∷ runs) at end some (here, (bytes, rest, shortest, whole, more)) =
    let size : 0 < length bytes = pairs_some run.pairs bytes (All-head (λ (run : ViewRead). 0 < length run.pairs) run runs some) shortest in
    let later = stand_rises section part runs (at + length bytes) end (All-tail (λ (run : ViewRead). 0 < length run.pairs) run runs some) more in (
      All-cons (λ (z : ViewRead). at ≤ z.at) run runs (omega (arith, here)) (All-weaker (λ (z : ViewRead). at + length bytes ≤ z.at) (λ (z : ViewRead). at ≤ z.at) (λ z least. omega (arith, least)) runs later.0),
      AllPairs-cons (λ (a b : ViewRead). a.at < b.at) run runs (All-weaker (λ (z : ViewRead). at + length bytes ≤ z.at) (λ (z : ViewRead). run.at < z.at) (λ z least. omega (arith, least, size, here)) runs later.0) later.1,
    )

same_view : (a b : ViewRead) → a.list ≡ b.list → a.at ≡ b.at → a.pairs ≡ b.pairs → a ≡ b
same_view a b list at pairs =
    ap (λ (z : ℕ). record { list = z; at = a.at; pairs = a.pairs }) list
    ∙ ap (λ (z : ℕ). record { list = b.list; at = z; pairs = a.pairs }) at
    ∙ ap (λ (z : List ViewPair). record { list = b.list; at = b.at; pairs = z }) pairs

-- of runs without pairs the first alone is kept
abbrev pub kept_runs : List ViewPair → ViewRead → List ViewRead → List ViewRead
kept_runs [] run runs = run ∷ []
kept_runs (pair ∷ pairs) run runs = run ∷ runs

abbrev pub thin : List ViewRead → List ViewRead
thin [] = []
thin (run ∷ runs) = kept_runs run.pairs run runs

-- one run is before another, or they are the same and have no pairs
abbrev pub IsOrdered : ViewRead → ViewRead → Type 0
IsOrdered a b = (a.at < b.at) ⊎ ((a ≡ b) × (b.pairs ≡ []))

-- those that are kept of the runs of a list are all, and rise
pub record AreKept (list : ℕ) (runs kept : List ViewRead) : Type 0 where
  pub goes : All (λ (run : ViewRead). run.list ≡ list) kept
  pub rising : AllPairs AreViewsApart kept
  pub has : (x : ViewRead) → Contains runs x → Contains kept x
  pub from : (x : ViewRead) → Contains kept x → Contains runs x
  pub ordered : AllPairs IsOrdered runs

single : (R : ViewRead → ViewRead → Type 0) (run : ViewRead) → AllPairs R (run ∷ [])
single R run i j d lt within = absurd (omega arith)

module _ (section : List ℕ) (part : Contribution) (list : ℕ) where
  module _ (run : ViewRead) (runs : List ViewRead) (at end : ℕ) (goes : All (λ (z : ViewRead). z.list ≡ list) (run ∷ runs)) (stands : RunsStand section part (run ∷ runs) at end) where
    -- runs without pairs are one
    kept_one : All (λ (z : ViewRead). z.pairs ≡ []) (run ∷ runs) → AreKept list (run ∷ runs) (run ∷ []) × RunsStand section part (run ∷ []) at end
    kept_one none =
        let all : List ViewRead = run ∷ runs in
        let together = stand_empty section part all at end none stands in
        let same : (a b : ViewRead) → Contains all a → Contains all b → a ≡ b = λ a b one other. same_view a b
        (All-contains (λ (z : ViewRead). z.list ≡ list) all a goes one ∙ sym (All-contains (λ (z : ViewRead). z.list ≡ list) all b goes other))
        (All-contains (λ (z : ViewRead). z.at ≡ at) all a together.1 one ∙ sym (All-contains (λ (z : ViewRead). z.at ≡ at) all b together.1 other))
        (All-contains (λ (z : ViewRead). z.pairs ≡ []) all a none one ∙ sym (All-contains (λ (z : ViewRead). z.pairs ≡ []) all b none other)) in
        let first : Contains all run = (0, omega arith, refl) in (
          record {
            goes = All-cons (λ (z : ViewRead). z.list ≡ list) run [] (All-head (λ (z : ViewRead). z.list ≡ list) run runs goes) (All-nil (λ (z : ViewRead). z.list ≡ list));
            rising = single AreViewsApart run;
            has = λ x one. (0, omega arith, same run x first one);
            from = λ x one. subst (Contains all) (All-contains (λ (z : ViewRead). run ≡ z) (run ∷ []) x (All-cons (λ (z : ViewRead). run ≡ z) run [] refl (All-nil (λ (z : ViewRead). run ≡ z))) one) first;
            ordered = λ i j d lt within. inr (same (get_or all i d) (get_or all j d) (Contains-get_or all i d (omega arith)) (Contains-get_or all j d within), All-get_or (λ (z : ViewRead). z.pairs ≡ []) all j d within none);
          },
          (stands.0, (stands.1.0, stands.1.1, stands.1.2, stands.1.3, last together.0)),
        )
      where
        last : at ≡ end → RunsStand section part [] (at + length stands.1.0) end
        last same =
            let empty : stands.1.0 ≡ [] = subst (λ (z : List ViewPair). Joined ShortestPair z stands.1.0) (All-head (λ (z : ViewRead). z.pairs ≡ []) run runs none) stands.1.2 in
            let size : length stands.1.0 ≡ 0 = ap length empty in
            omega (arith, same, size)

    -- runs with pairs are all kept
    kept_all : All (λ (z : ViewRead). 0 < length z.pairs) (run ∷ runs) → AreKept list (run ∷ runs) (run ∷ runs)
    kept_all some =
        let all : List ViewRead = run ∷ runs in
        let rise = (stand_rises section part all at end some stands).1 in
        record {
          goes = goes;
          rising = λ i j d lt within. inr (All-get_or (λ (z : ViewRead). z.list ≡ list) all i d (omega arith) goes ∙ sym (All-get_or (λ (z : ViewRead). z.list ≡ list) all j d within goes), rise i j d lt within);
          has = λ x one. one;
          from = λ x one. one;
          ordered = λ i j d lt within. inl (rise i j d lt within);
        }

    by_pairs : (pairs : List ViewPair) (count : ℕ) → run.pairs ≡ pairs → All (λ (z : ViewRead). length z.pairs ≡ count) (run ∷ runs) → AreKept list (run ∷ runs) (kept_runs pairs run runs) × RunsStand section part (kept_runs pairs run runs) at end
    by_pairs [] count is each =
        let none : count ≡ 0 = sym (All-head (λ (z : ViewRead). length z.pairs ≡ count) run runs each) ∙ ap length is in
        kept_one (All-weaker (λ (z : ViewRead). length z.pairs ≡ count) (λ (z : ViewRead). z.pairs ≡ []) (λ z long. nil_from_length z.pairs (long ∙ none)) (run ∷ runs) each)
    by_pairs (pair ∷ pairs) count is each =
        let some : length run.pairs ≡ suc (length pairs) = ap length is in
        let first = All-head (λ (z : ViewRead). length z.pairs ≡ count) run runs each in
        (kept_all (All-weaker (λ (z : ViewRead). length z.pairs ≡ count) (λ (z : ViewRead). 0 < length z.pairs) (λ z long. omega (arith, long, some, first)) (run ∷ runs) each), stands)

  pub thin_kept : (runs : List ViewRead) (at end count : ℕ) → All (λ (z : ViewRead). z.list ≡ list) runs → RunsStand section part runs at end → All (λ (z : ViewRead). length z.pairs ≡ count) runs → AreKept list runs (thin runs) × RunsStand section part (thin runs) at end
  thin_kept [] at end count goes stands each = (record { goes = goes; rising = λ i j d lt within. absurd (omega arith); has = λ x one. one; from = λ x one. one; ordered = λ i j d lt within. absurd (omega arith) }, stands)
  thin_kept (run ∷ runs) at end count goes stands each = by_pairs run runs at end goes stands run.pairs count refl each

-- ---- the runs of all lists

-- those of the first lists
abbrev pub gathered : (ℕ → List ViewRead) → ℕ → List ViewRead
gathered group zero = []
gathered group (suc n) = gathered group n ++ group n

keep_all : (test : ViewRead → Bool) (xs : List ViewRead) → All (λ (x : ViewRead). test x ≡ true) xs → filter test xs ≡ xs
keep_all test [] each = refl
keep_all test (x ∷ xs) each = ap (λ (b : Bool). cond b (x ∷ filter test xs) (filter test xs)) (All-head (λ (x : ViewRead). test x ≡ true) x xs each) ∙ ap (λ (z : List ViewRead). x ∷ z) (keep_all test xs (All-tail (λ (x : ViewRead). test x ≡ true) x xs each))

keep_none : (test : ViewRead → Bool) (xs : List ViewRead) → All (λ (x : ViewRead). test x ≡ false) xs → filter test xs ≡ []
keep_none test [] each = refl
keep_none test (x ∷ xs) each = ap (λ (b : Bool). cond b (x ∷ filter test xs) (filter test xs)) (All-head (λ (x : ViewRead). test x ≡ false) x xs each) ∙ keep_none test xs (All-tail (λ (x : ViewRead). test x ≡ false) x xs each)

pairs_append : (R : ViewRead → ViewRead → Type 0) (xs ys : List ViewRead) → AllPairs R xs → AllPairs R ys → All (λ (x : ViewRead). All (R x) ys) xs → AllPairs R (xs ++ ys)
pairs_append R [] ys one other cross = other
pairs_append R (x ∷ xs) ys one other cross =
    AllPairs-cons R x (xs ++ ys)
    (All-append (R x) xs ys (λ j d less. one 0 (suc j) d (omega arith) (omega arith)) (All-head (λ (x : ViewRead). All (R x) ys) x xs cross))
    (pairs_append R xs ys (λ i j d lt within. one (suc i) (suc j) d (omega arith) (omega arith)) other (All-tail (λ (x : ViewRead). All (R x) ys) x xs cross))

module _ (group : ℕ → List ViewRead) (place : ℕ → ℕ) (count : ℕ) (rise : (j k : ℕ) → j < k → k < count → place j < place k) (goes : (k : ℕ) → k < count → All (λ (run : ViewRead). run.list ≡ place k) (group k)) where
  gathered_has : (n k : ℕ) → k < n → (x : ViewRead) → Contains (group k) x → Contains (gathered group n) x
  gathered_has zero k less x one = absurd (omega arith)
  gathered_has (suc n) k less x one = elim (cases_lt k n) [
    | inl before ↦ Contains-append_left (gathered group n) (group n) x (gathered_has n k before x one)
    | inr past ↦ (let last : k ≡ n = omega arith in Contains-append_right (gathered group n) (group n) x (subst (λ (z : ℕ). Contains (group z) x) last one))
  ]

  gathered_from : (n : ℕ) (x : ViewRead) → Contains (gathered group n) x → (k : ℕ) × (k < n) × Contains (group k) x
  gathered_from zero x (k, less, is) = absurd (omega arith)
  gathered_from (suc n) x one = elim (Contains-append_cases (gathered group n) (group n) x one) [
    | inl before ↦ (let (k, less, there) = gathered_from n x before in (k, omega arith, there))
    | inr last ↦ (n, omega arith, last)
  ]

  gathered_goes : (n : ℕ) → n ≤ count → All (λ (run : ViewRead). (k : ℕ) × (k < n) × (run.list ≡ place k)) (gathered group n)
  gathered_goes zero most = All-nil (λ (run : ViewRead). (k : ℕ) × (k < zero) × (run.list ≡ place k))
  gathered_goes (suc n) most =
      All-append (λ (run : ViewRead). (k : ℕ) × (k < suc n) × (run.list ≡ place k)) (gathered group n) (group n)
      (All-weaker (λ (run : ViewRead). (k : ℕ) × (k < n) × (run.list ≡ place k)) (λ (run : ViewRead). (k : ℕ) × (k < suc n) × (run.list ≡ place k)) (λ run (k, less, is). (k, omega arith, is)) (gathered group n) (gathered_goes n (omega arith)))
      (All-weaker (λ (run : ViewRead). run.list ≡ place n) (λ (run : ViewRead). (k : ℕ) × (k < suc n) × (run.list ≡ place k)) (λ run is. (n, omega arith, is)) (group n) (goes n (omega arith)))

  gathered_rises : ((k : ℕ) → k < count → AllPairs AreViewsApart (group k)) → (n : ℕ) → n ≤ count → AllPairs AreViewsApart (gathered group n)
  gathered_rises each zero most = λ i j d lt within. absurd (omega arith)
  gathered_rises each (suc n) most =
      pairs_append AreViewsApart (gathered group n) (group n) (gathered_rises each n (omega arith)) (each n (omega arith))
      (All-weaker (λ (run : ViewRead). (k : ℕ) × (k < n) × (run.list ≡ place k)) (λ (run : ViewRead). All (AreViewsApart run) (group n))
      (λ run (k, less, is). All-weaker (λ (z : ViewRead). z.list ≡ place n) (AreViewsApart run) (λ z same. inl (omega (arith, is, same, rise k n less (omega arith)))) (group n) (goes n (omega arith)))
      (gathered group n) (gathered_goes n (omega arith)))

  abbrev goes_with : ℕ → ViewRead → Bool
  goes_with k run = nat_eq run.list (place k)

  places_apart : (j k : ℕ) → j < count → k < count → j ≢ k → place j ≢ place k
  places_apart j k j_in k_in apart same = elim (cases_lt j k) [
    | inl less ↦ (let below = rise j k less k_in in omega (arith, below, same))
    | inr rest ↦ (let below = rise k j (omega (arith, rest, apart)) j_in in omega (arith, below, same))
  ]

  group_none : (j k : ℕ) → j < count → k < count → j ≢ k → filter (goes_with k) (group j) ≡ []
  group_none j k j_in k_in apart = keep_none (goes_with k) (group j) (All-weaker (λ (run : ViewRead). run.list ≡ place j) (λ (run : ViewRead). goes_with k run ≡ false) (λ run is. ne_eqb run.list (place k) (λ same. places_apart j k j_in k_in apart (sym is ∙ same))) (group j) (goes j j_in))

  gathered_none : (n k : ℕ) → n ≤ k → k < count → filter (goes_with k) (gathered group n) ≡ []
  gathered_none zero k least inside = refl
  gathered_none (suc n) k least inside =
      filter-append (goes_with k) (gathered group n) (group n)
      ∙ ap (λ (z : List ViewRead). z ++ filter (goes_with k) (group n)) (gathered_none n k (omega arith) inside)
      ∙ group_none n k (omega arith) inside (λ same. absurd (omega (arith, same)))

  -- those of a list are its group
  pub gathered_with : (n k : ℕ) → n ≤ count → k < n → filter (goes_with k) (gathered group n) ≡ group k
  gathered_with zero k most less = absurd (omega arith)
  gathered_with (suc n) k most less =
      filter-append (goes_with k) (gathered group n) (group n) ∙ elim (cases_lt k n) [
        | inl before ↦
            ap (λ (z : List ViewRead). z ++ filter (goes_with k) (group n)) (gathered_with n k (omega arith) before)
            ∙ ap (λ (z : List ViewRead). group k ++ z) (group_none n k (omega arith) (omega arith) (λ same. absurd (omega (arith, same))))
            ∙ append-nil (group k)
        | inr past ↦
            let last : n ≡ k = omega arith in
            ap (λ (z : List ViewRead). z ++ filter (goes_with k) (group n)) (gathered_none n k (omega arith) (omega arith))
            ∙ keep_all (goes_with k) (group n) (All-weaker (λ (run : ViewRead). run.list ≡ place n) (λ (run : ViewRead). goes_with k run ≡ true) (λ run is. eq-eqb run.list (place k) (is ∙ ap place last)) (group n) (goes n (omega arith)))
            ∙ ap group last
      ]

-- view pairs that rise are each once
apart_not : (a b : ViewRead) → a ≡ b → AreViewsApart a b → ⊥
apart_not a b same (inl less) = let list = ap (λ (z : ViewRead). z.list) same in omega (arith, list, less)
apart_not a b same (inr (with, less)) = let at = ap (λ (z : ViewRead). z.at) same in omega (arith, at, less)

apart_once : (a b : ViewRead) → AreViewsApart a b → AreViewsApart b a → ⊥
apart_once a b (inl less) (inl more) = omega (arith, less, more)
apart_once a b (inl less) (inr (with, more)) = omega (arith, less, with)
apart_once a b (inr (with, less)) (inl more) = omega (arith, with, more)
apart_once a b (inr (with, less)) (inr (other, more)) = omega (arith, less, more)

module _ (xs : List ViewRead) (rise : AllPairs AreViewsApart xs) (i j : ℕ) (i_in : i < length xs) (j_in : j < length xs) where
  same_number : view_at xs i ≡ view_at xs j → i ≡ j
  same_number same = elim (cases_lt i j) [
    | inl less ↦ absurd (apart_not (view_at xs i) (view_at xs j) same (rise i j (view_at [] 0) less j_in))
    | inr rest ↦ elim (cases_lt j i) [
      | inl more ↦ absurd (apart_not (view_at xs j) (view_at xs i) (sym same) (rise j i (view_at [] 0) more i_in))
      | inr both ↦ omega arith
    ]
  ]

  apart_less : AreViewsApart (view_at xs i) (view_at xs j) → i < j
  apart_less apart = elim (cases_lt i j) [
    | inl less ↦ less
    | inr rest ↦ elim (cases_lt j i) [
      | inl more ↦ absurd (apart_once (view_at xs i) (view_at xs j) apart (rise j i (view_at [] 0) more i_in))
      | inr both ↦ (let same : i ≡ j = omega arith in absurd (apart_not (view_at xs i) (view_at xs j) (ap (view_at xs) same) apart))
    ]
  ]

-- ---- runs by their numbers

-- a run with a number is one of a list
pub record IsRunOf (lists : List ToWrite) (n k i : ℕ) : Type 0 where
  pub known : k < length lists
  pub inside : i < length (written_at lists k).views
  pub number : n ≡ runs_before lists k + i

pub find_run : (lists : List ToWrite) (n : ℕ) → n < length (all_runs lists) → (k : ℕ) × (i : ℕ) × IsRunOf lists n k i
find_run [] n less = absurd (omega arith)
find_run (l ∷ lists) n less = elim (cases_lt n (length l.views)) [
  | inl here ↦ (0, n, record { known = omega arith; inside = here; number = (let start : n ≡ 0 + n = omega arith in start) })
  | inr past ↦
      let (k, i, is) = find_run lists (n - length l.views) (omega (arith, length-append l.views (all_runs lists))) in
      (suc k, i, record { known = omega (arith, is.known); inside = is.inside; number = omega (arith, past, is.number, sum_by-cons (λ (list : ToWrite). length list.views) l (take k lists)) })
]

pub run_found : (lists : List ToWrite) (n k i : ℕ) → IsRunOf lists n k i → (n < length (all_runs lists)) × (run_at (all_runs lists) n ≡ run_at (written_at lists k).views i)
run_found lists n k i is = subst (λ (z : ℕ). (z < length (all_runs lists)) × (run_at (all_runs lists) z ≡ run_at (written_at lists k).views i)) (sym is.number) (at lists k i is.known is.inside)
  where
    at : (xs : List ToWrite) (k i : ℕ) → k < length xs → i < length (written_at xs k).views → (runs_before xs k + i < length (all_runs xs)) × (run_at (all_runs xs) (runs_before xs k + i) ≡ run_at (written_at xs k).views i)
    at [] k i known inside = absurd (omega arith)
    at (x ∷ xs) zero i known inside = (omega (arith, inside, length-append x.views (all_runs xs)), (let start : 0 + i ≡ i = omega arith in ap (run_at (all_runs (x ∷ xs))) start ∙ get_or_append_left x.views (all_runs xs) (run_at [] 0) i inside))
    at (x ∷ xs) (suc k) i known inside =
        let later = at xs k i (omega arith) inside in
        let start : runs_before (x ∷ xs) (suc k) + i ≡ length x.views + (runs_before xs k + i) = omega (arith, sum_by-cons (λ (list : ToWrite). length list.views) x (take k xs)) in
        (omega (arith, start, later.0, length-append x.views (all_runs xs)), ap (run_at (all_runs (x ∷ xs))) start ∙ get_or-append-add x.views (all_runs xs) (runs_before xs k + i) (run_at [] 0) ∙ later.1)

-- the runs of a list stand before those of the next ones
before_later : (lists : List ToWrite) (j k : ℕ) → j < k → k < length lists → runs_before lists j + length (written_at lists j).views ≤ runs_before lists k
before_later [] j k less inside = absurd (omega arith)
before_later (l ∷ lists) j zero less inside = absurd (omega arith)
before_later (l ∷ lists) zero (suc k) less inside = omega (arith, sum_by-cons (λ (list : ToWrite). length list.views) l (take k lists))
before_later (l ∷ lists) (suc j) (suc k) less inside = omega (arith, sum_by-cons (λ (list : ToWrite). length list.views) l (take j lists), sum_by-cons (λ (list : ToWrite). length list.views) l (take k lists), before_later lists j k (omega arith) (omega arith))

-- a run is one of one list, and a later one is of the same or of a later list
pub run_order : (lists : List ToWrite) (n m j i k h : ℕ) → n < m → IsRunOf lists n j i → IsRunOf lists m k h → (j < k) ⊎ ((j ≡ k) × (i < h))
run_order lists n m j i k h less one other = elim (cases_lt j k) [
  | inl before ↦ inl before
  | inr rest ↦ elim (cases_lt k j) [
    | inl after ↦ (let later = before_later lists k j after one.known in absurd (omega (arith, later, less, one.number, other.number, other.inside)))
    | inr both ↦
        let same : j ≡ k = omega arith in
        let start : runs_before lists j ≡ runs_before lists k = ap (runs_before lists) same in
        inr (same, omega (arith, start, less, one.number, other.number))
  ]
]

pub run_once : (lists : List ToWrite) (n j i k h : ℕ) → IsRunOf lists n j i → IsRunOf lists n k h → (j ≡ k) × (i ≡ h)
run_once lists n j i k h one other = elim (cases_lt j k) [
  | inl before ↦ (let later = before_later lists j k before other.known in absurd (omega (arith, later, one.number, other.number, one.inside)))
  | inr rest ↦ elim (cases_lt k j) [
    | inl after ↦ (let later = before_later lists k j after one.known in absurd (omega (arith, later, one.number, other.number, other.inside)))
    | inr both ↦
        let same : j ≡ k = omega arith in
        let start : runs_before lists j ≡ runs_before lists k = ap (runs_before lists) same in
        (same, omega (arith, start, one.number, other.number))
  ]
]

-- ---- the view pairs of a written section

module _ (section : List ℕ) (parts : List Contribution) (lists : List ToWrite) (moved views : List Moved) (rise : (j k : ℕ) → j < k → k < length lists → (moved_at moved j).new < (moved_at moved k).new) (each : (k i : ℕ) → k < length lists → i < length (written_at lists k).views → StandsBefore section (new_part_at parts (written_at lists k).part) (moved_at views (runs_before lists k + i)).new (run_at (written_at lists k).views i).pairs) (follow : (k : ℕ) → k < length lists → (from : ℕ) × Follow (run_stretches views (runs_before lists k) (written_at lists k).views) from (moved_at moved k).new) (counts : (k : ℕ) → k < length lists → (count : ℕ) × All (λ (run : Run). length run.pairs ≡ count) (written_at lists k).views) where
  -- where a list begins now, and the part in which it does
  abbrev place : ℕ → ℕ
  place k = (moved_at moved k).new

  abbrev part_of : ℕ → Contribution
  part_of k = new_part_at parts (written_at lists k).part

  -- its runs, and those of them that are kept
  abbrev pub runs_of : ℕ → List ViewRead
  runs_of k = moved_runs views (place k) (runs_before lists k) (written_at lists k).views

  abbrev pub group : ℕ → List ViewRead
  group k = thin (runs_of k)

  abbrev pub new_views : List ViewRead
  new_views = gathered group (length lists)

  stand_from : (k : ℕ) → k < length lists → (from to : ℕ) → Follow (run_stretches views (runs_before lists k) (written_at lists k).views) from to → AreKept (place k) (runs_of k) (group k) × RunsStand section (part_of k) (group k) from to
  stand_from k known from to follows =
      let (count, same) = counts k known in
      thin_kept section (part_of k) (place k) (runs_of k) from to count (moved_list views (place k) (runs_before lists k) (written_at lists k).views) (runs_stand section (part_of k) views (place k) (runs_before lists k) (written_at lists k).views from to (λ i inside. each k i known inside) follows) (moved_pairs views (place k) (runs_before lists k) (written_at lists k).views count same)

  -- they stand where they follow each other
  pub group_stands : (k : ℕ) → k < length lists → (from to : ℕ) → Follow (run_stretches views (runs_before lists k) (written_at lists k).views) from to → RunsStand section (part_of k) (group k) from to
  group_stands k known from to follows = (stand_from k known from to follows).1

  kept : (k : ℕ) → k < length lists → AreKept (place k) (runs_of k) (group k)
  kept k known = let (from, follows) = follow k known in (stand_from k known from (place k) follows).0

  -- the runs that go with a list are those of it that are kept
  pub views_found : (k : ℕ) → k < length lists → filter (λ (run : ViewRead). nat_eq run.list (place k)) new_views ≡ group k
  views_found k known = gathered_with group place (length lists) rise (λ j inside. (kept j inside).goes) (length lists) k (omega arith) known

  pub views_rise : AllPairs AreViewsApart new_views
  views_rise = gathered_rises group place (length lists) rise (λ j inside. (kept j inside).goes) (λ j inside. (kept j inside).rising) (length lists) (omega arith)

  -- the run with a number is one of them
  pub record HasNumber (n m : ℕ) : Type 0 where
    pub k : ℕ
    pub i : ℕ
    pub is : IsRunOf lists n k i
    pub inside : m < length new_views
    pub here : view_at new_views m ≡ view_at (runs_of k) i

  in_runs : (k i : ℕ) → i < length (written_at lists k).views → i < length (runs_of k)
  in_runs k i less = omega (arith, less, moved_count views (place k) (runs_before lists k) (written_at lists k).views)

  has_number : (n : ℕ) → n < length (all_runs lists) → (m : ℕ) × HasNumber n m
  has_number n less =
      let (k, i, is) = find_run lists n less in
      let one : Contains (runs_of k) (view_at (runs_of k) i) = Contains-get_or (runs_of k) i (view_at [] 0) (in_runs k i is.inside) in
      let (m, within, same) = gathered_has group place (length lists) rise (λ j inside. (kept j inside).goes) (length lists) k is.known (view_at (runs_of k) i) ((kept k is.known).has (view_at (runs_of k) i) one) in
      (m, record { k = k; i = i; is = is; inside = within; here = get_or_default new_views m (view_at [] 0) (view_at (runs_of k) i) within ∙ same })

  -- what stands there
  pub found_run : (n m : ℕ) (has : HasNumber n m) → view_at new_views m ≡ record { list = place has.k; at = (moved_at views (runs_before lists has.k + has.i)).new; pairs = (run_at (written_at lists has.k).views has.i).pairs }
  found_run n m has = has.here ∙ moved_run views (place has.k) (runs_before lists has.k) (written_at lists has.k).views has.i has.is.inside

  pub numbered_run : (n m : ℕ) (has : HasNumber n m) → view_at new_views m ≡ record { list = place has.k; at = (moved_at views n).new; pairs = (run_at (all_runs lists) n).pairs }
  numbered_run n m has =
      let all = run_found lists n has.k has.i has.is in
      found_run n m has
      ∙ ap (λ (z : ℕ). record { list = place has.k; at = (moved_at views z).new; pairs = (run_at (written_at lists has.k).views has.i).pairs }) (sym has.is.number)
      ∙ ap (λ (z : Run). record { list = place has.k; at = (moved_at views n).new; pairs = z.pairs }) (sym all.1)

  -- each is such a run
  pub came_from : (m : ℕ) → m < length new_views → (n : ℕ) × (n < length (all_runs lists)) × HasNumber n m
  came_from m inside =
      let x : ViewRead = view_at new_views m in
      let (k, known, one) = gathered_from group place (length lists) rise (λ j inside. (kept j inside).goes) (length lists) x (Contains-get_or new_views m (view_at [] 0) inside) in
      let (i, less, same) = (kept k known).from x one in
      let is : IsRunOf lists (runs_before lists k + i) k i = record { known = known; inside = omega (arith, less, moved_count views (place k) (runs_before lists k) (written_at lists k).views); number = refl } in
      (runs_before lists k + i, (run_found lists (runs_before lists k + i) k i is).0, record { k = k; i = i; is = is; inside = inside; here = sym (get_or_default (runs_of k) i (view_at [] 0) x less ∙ same) })

  number_once : (n m o : ℕ) → HasNumber n m → HasNumber n o → m ≡ o
  number_once n m o one other =
      let (k_same, i_same) = run_once lists n one.k one.i other.k other.i one.is other.is in
      same_number new_views views_rise m o one.inside other.inside (one.here ∙ ap (λ (z : ℕ). view_at (runs_of z) one.i) k_same ∙ ap (view_at (runs_of other.k)) i_same ∙ sym other.here)

  -- their order stays
  number_order : (n o m q : ℕ) → n < o → HasNumber n m → HasNumber o q → (m < q) ⊎ ((m ≡ q) × ((run_at (all_runs lists) o).pairs ≡ []))
  number_order n o m q less one other = elim (run_order lists n o one.k one.i other.k other.i less one.is other.is) [
    | inl before ↦
        let mine = ap (λ (z : ViewRead). z.list) (numbered_run n m one) in
        let theirs = ap (λ (z : ViewRead). z.list) (numbered_run o q other) in
        let below = rise one.k other.k before other.is.known in
        inl (apart_less new_views views_rise m q one.inside other.inside (inl (omega (arith, mine, theirs, below))))
    | inr (k_same, i_less) ↦
        let here : view_at new_views m ≡ view_at (runs_of other.k) one.i = one.here ∙ ap (λ (z : ℕ). view_at (runs_of z) one.i) k_same in
        elim ((kept other.k other.is.known).ordered one.i other.i (view_at [] 0) i_less (in_runs other.k other.i other.is.inside)) [
          | inl lower ↦
              let mine = ap (λ (z : ViewRead). z.list) (numbered_run n m one) in
              let theirs = ap (λ (z : ViewRead). z.list) (numbered_run o q other) in
              let same : (view_at new_views m).list ≡ (view_at new_views q).list = mine ∙ ap place k_same ∙ sym theirs in
              let first = ap (λ (z : ViewRead). z.at) here in
              let second = ap (λ (z : ViewRead). z.at) other.here in
              inl (apart_less new_views views_rise m q one.inside other.inside (inr (same, omega (arith, lower, first, second))))
          | inr (same, none) ↦
              let pairs = ap (λ (z : ViewRead). z.pairs) (sym other.here ∙ numbered_run o q other) in
              inr (same_number new_views views_rise m q one.inside other.inside (here ∙ same ∙ sym other.here), sym pairs ∙ none)
        ]
  ]

  -- The runs by their numbers: each is one of the new ones, in the same order, and these are all.
  pub record AreRunsAnew : Type 0 where
    pub numbers : List ℕ
    pub count : length numbers ≡ length (all_runs lists)
    pub has : (n : ℕ) → n < length (all_runs lists) → HasNumber n (slice_index numbers n)
    pub order : (n o : ℕ) → n < o → o < length (all_runs lists) → (slice_index numbers n < slice_index numbers o) ⊎ ((slice_index numbers n ≡ slice_index numbers o) × ((run_at (all_runs lists) o).pairs ≡ []))
    pub all : (m : ℕ) → m < length new_views → (n : ℕ) × (n < length (all_runs lists)) × (slice_index numbers n ≡ m)

  pub runs_anew : AreRunsAnew
  runs_anew =
      let (numbers, count, chosen) = choose HasNumber (length (all_runs lists)) has_number in
      record {
        numbers = numbers;
        count = count;
        has = λ n inside. chosen n 0 inside;
        order = λ n o less inside. number_order n o (slice_index numbers n) (slice_index numbers o) less (chosen n 0 (omega arith)) (chosen o 0 inside);
        all = λ m inside. (let (n, known, has) = came_from m inside in (n, known, number_once n (slice_index numbers n) m (chosen n 0 known) has));
      }
