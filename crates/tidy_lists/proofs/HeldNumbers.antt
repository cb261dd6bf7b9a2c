-- The numbers of lists and of runs of view pairs, as they are found by their places.
use Rattle.std.proofs.Common.{◌≡◌, ◌<◌, ◌∙◌, inl, inr, ℕ, List, [], ◌∷◌, length, get_or, sym, ap, subst, arith}
use Rattle.std.specs.Prelude.{Some, None}
use Rattle.std.proofs.lemmas.Bool.{cases_lt}
use Rattle.std.proofs.lemmas.List.{get_or-map, length-map}
use Rattle.list_model.specs.declared.entry.ListKind.{ListKind}
use Rattle.list_arena.specs.Held.{HeldList, HeldViews, ViewsRise, AreViewsFound, IsListFound}
use Rattle.value_links.specs.Reading.{ViewRead, Reading, lists_of, list_at, view_at}
use Rattle.value_links.specs.Lists.{AreViewsApart}
use Rattle.value_links.specs.World.{HoldLists, HoldViews}
use Rattle.value_links.specs.Whole.{IsReading}
use Rattle.tidy_lists.specs.inside.NamedNumbers.{IsListNumber, IsRunNumber}

-- an item of a list that has one
some_of : {X : Type 0} (xs : List X) (k : ℕ) → k < length xs → X
some_of [] k inside = absurd (omega arith)
some_of (x ∷ xs) k inside = x

-- LISTS

module _ (file : List ℕ) (r : Reading) (read : IsReading file r) (kind : ListKind) (held : List HeldList) (holds : HoldLists r.links kind (lists_of r kind) held) (place : ℕ) where
  place_same : (k : ℕ) (d : HeldList) → k < length held → (get_or held k d).at ≡ (list_at (lists_of r kind) k).at
  place_same k d inside = (holds.each k d (subst (λ (n : ℕ). k < n) holds.count inside)).at

  -- a search ends at the number of the list
  pub list_found : (k : ℕ) → IsListFound held place (Some k) → IsListNumber r kind place k
  list_found k (inside, here) =
      let d = some_of held k inside in
      (subst (λ (n : ℕ). k < n) holds.count inside, sym (place_same k d inside) ∙ here d)

  -- or no list begins there
  pub list_not_found : IsListFound held place None → (k : ℕ) → IsListNumber r kind place k → ⊥
  list_not_found none k (known, here) =
      let inside : k < length held = subst (λ (n : ℕ). k < n) (sym holds.count) known in
      let d = some_of held k inside in
      none k d inside (place_same k d inside ∙ here)

-- one list begins at a place
pub list_once : (file : List ℕ) (r : Reading) → IsReading file r → (kind : ListKind) (place i k : ℕ) → IsListNumber r kind place i → IsListNumber r kind place k → i ≡ k
list_once file r read kind place i k (i_in, i_at) (k_in, k_at) = elim (cases_lt i k) [
  | inl less ↦ let rising = (read.lists kind).rising i k less k_in in absurd (omega (arith, rising, i_at, k_at))
  | inr past ↦ elim (cases_lt k i) [
    | inl more ↦ let rising = (read.lists kind).rising k i more i_in in absurd (omega (arith, rising, i_at, k_at))
    | inr rest ↦ omega (arith, past, rest)
  ]
]

-- RUNS OF VIEW PAIRS

abbrev read_of : HeldViews → ViewRead
read_of run = record { list = run.list; at = run.at; pairs = run.pairs }

module _ (file : List ℕ) (r : Reading) (read : IsReading file r) (held : List HeldViews) (holds : HoldViews r.views held) where
  counted : length held ≡ length r.views
  counted = sym (ap length holds ∙ length-map held read_of)

  run_same : (k : ℕ) (d : HeldViews) → k < length held → view_at r.views k ≡ read_of (get_or held k d)
  run_same k d inside = ap (λ (z : List ViewRead). view_at z k) holds ∙ get_or-map read_of held k d (record { list = 0; at = 0; pairs = [] }) inside

  -- runs rise as they are held
  pub runs_apart : ViewsRise held
  runs_apart = λ i j d less inside.
      let rising : AreViewsApart (view_at r.views i) (view_at r.views j) = read.views.rising i j less (subst (λ (n : ℕ). j < n) counted inside) in
      subst (λ (z : ViewRead). AreViewsApart (read_of (get_or held i d)) z) (run_same j d inside) (subst (λ (z : ViewRead). AreViewsApart z (view_at r.views j)) (run_same i d (omega (arith, less, inside))) rising)

  -- a search ends at the number of the run
  pub run_found : (list place k : ℕ) → AreViewsFound held list place (Some k) → IsRunNumber r list place k
  run_found list place k (inside, there) =
      let d = some_of held k inside in
      let (with, here) = there d in
      (subst (λ (n : ℕ). k < n) counted inside, ap (λ (z : ViewRead). z.list) (run_same k d inside) ∙ with, ap (λ (z : ViewRead). z.at) (run_same k d inside) ∙ here)

  -- or none stands there
  pub run_not_found : (list place : ℕ) → AreViewsFound held list place None → (k : ℕ) → IsRunNumber r list place k → ⊥
  run_not_found list place none k (known, with, here) =
      let inside : k < length held = subst (λ (n : ℕ). k < n) (sym counted) known in
      let d = some_of held k inside in
      none k d inside (ap (λ (z : ViewRead). z.list) (sym (run_same k d inside)) ∙ with) (ap (λ (z : ViewRead). z.at) (sym (run_same k d inside)) ∙ here)

-- one run goes with a list and stands at a place
pub run_once : (file : List ℕ) (r : Reading) → IsReading file r → (list place i k : ℕ) → IsRunNumber r list place i → IsRunNumber r list place k → i ≡ k
run_once file r read list place i k (i_in, i_with, i_at) (k_in, k_with, k_at) = elim (cases_lt i k) [
  | inl less ↦ (elim (read.views.rising i k less k_in) [
    | inl lists ↦ absurd (omega (arith, lists, i_with, k_with))
    | inr (same, places) ↦ absurd (omega (arith, places, i_at, k_at))
  ])
  | inr past ↦ elim (cases_lt k i) [
    | inl more ↦ (elim (read.views.rising k i more i_in) [
      | inl lists ↦ absurd (omega (arith, lists, i_with, k_with))
      | inr (same, places) ↦ absurd (omega (arith, places, i_at, k_at))
    ])
    | inr rest ↦ omega (arith, past, rest)
  ]
]
