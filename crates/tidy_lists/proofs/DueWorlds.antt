-- One more list and one more run of view pairs that are due, of files that are held.
use Rattle.std.proofs.Common.{◌≡◌, ◌≤◌, ◌<◌, ◌+◌, ◌-◌, ◌^◌, ◌∙◌, ◌⊎◌, inl, inr, ℕ, List, [], ◌∷◌, ◌++◌, length, get_or, min, sym, ap, subst, refl, arith}
use Rattle.std.specs.Prelude.{◌≢◌, slice_index}
use Rattle.std.proofs.lemmas.Bool.{cases_lt}
use Rattle.std.proofs.lemmas.List.{get_or_default}
use Rattle.list_model.specs.declared.entry.ListKind.{ListKind}
use Rattle.list_model.specs.declared.entry.ListKind.TheVariants.{Locations}
use Rattle.list_model.specs.Contributions.{lists_at}
use Rattle.list_arena.specs.Held.{HeldList, HeldViews}
use Rattle.value_links.specs.Reading.{of_kind, lists_of, part_at, list_at, view_at}
use Rattle.value_links.specs.World.{World, contribution_at, lists_held}
use Rattle.tidy_lists.specs.declared.due.Place.{Place}
use Rattle.tidy_lists.specs.Followers.{HasLength, RunHasLength}
use Rattle.tidy_lists.specs.inside.Compared.{OfBoth}
use Rattle.tidy_lists.specs.inside.DuePlaces.{place_at, held_place, runs_of, runs_held, AreFirstLists, AreFirstRuns, part_of, start_of, pieces_before, IsHeldEnd, IsListDue, AreListsDue, AreRunsDue, IsNextDue, AreRunsHeld, AreRunsOf, ArePassed, AreDue}
use Rattle.tidy_lists.proofs.HeldThings.{IsSomeWorld, list_count, held_part, held_at, held_contribution, run_count, held_run, AreRunsSwept, runs_swept}
use Rattle.tidy_lists.proofs.DueSteps.{begins_behind, begins_first, runs_begin, run_more, due_more, runs_passed}

module _ (a b : World) (kind : ListKind) where
  -- WHERE A LIST BEGINS

  pub begin_behind :
      (number : ℕ) (firsts : List ℕ) (due : List Place) (last : Place) (d : HeldList) (part len at : ℕ) → number < length (lists_held a kind) → 0 < number → OfBoth a b (λ r s. AreFirstLists kind r s firsts) → OfBoth a b (λ r s. AreListsDue kind r s number due) →
      last ≡ place_at due (number - 1) → part ≡ (get_or (lists_held a kind) number d).part → last.part ≡ part → OfBoth b b (λ r s. HasLength kind s (list_at (lists_of s kind) (slice_index firsts (number - 1))) len) → at ≡ min (last.at + len) (2 ^ 64 - 1) →
      OfBoth a b (λ r s. IsHeldEnd kind r s number (pieces_before r kind number) (record { part = part; at = at }))
  begin_behind number firsts due last d part len at inside some first are is own same has place = λ r s read holds again held.
      let k : ℕ = number - 1 in
      let next : k + 1 ≡ number = omega (arith, some) in
      let count : length (lists_held a kind) ≡ length (lists_of r kind) = list_count a r holds kind in
      let before : IsListDue kind r s k last = subst (IsListDue kind r s k) (sym is) (are r s read holds again held k (omega (arith, some))) in
      let here : part ≡ part_of r kind number = own ∙ held_part a r holds kind number d inside in
      let here_too : part ≡ part_of r kind (k + 1) = here ∙ ap (part_of r kind) (sym next) in
      let follows = first r s read holds again held k (omega (arith, inside, count)) in
      let length_of : HasLength kind s (list_at (lists_of s kind) (slice_index firsts k)) len = has s s again held again held in
      subst (λ (n : ℕ). IsHeldEnd kind r s n (pieces_before r kind n) (record { part = part; at = at })) next
      (begins_behind a.image r s read kind k last len (record { part = part; at = at }) (sym here_too ∙ sym same ∙ before.part) before (slice_index firsts k, follows, length_of) here_too place)

  pub begin_first :
      (number : ℕ) (due : List Place) (d : HeldList) (part at : ℕ) → number < length (lists_held a kind) → OfBoth a b (λ r s. AreListsDue kind r s number due) → part ≡ (get_or (lists_held a kind) number d).part →
      (number ≡ 0) ⊎ ((place_at due (number - 1)).part ≢ part) → at ≡ held_place (lists_at (contribution_at b kind part)) → OfBoth a b (λ r s. IsHeldEnd kind r s number (pieces_before r kind number) (record { part = part; at = at }))
  begin_first number due d part at inside are own first place = λ r s read holds again held.
      let here : part ≡ part_of r kind number = own ∙ held_part a r holds kind number d inside in
      let start : lists_at (contribution_at b kind part) ≡ start_of r s kind number = ap lists_at (held_contribution b s held kind part) ∙ ap (λ (p : ℕ). lists_at (part_at (of_kind s.links kind) p)) here in
      let alone : (number ≡ 0) ⊎ (part_of r kind (number - 1) ≢ part_of r kind number) = elim (cases_lt 0 number) [
        | inr none ↦ inl (omega (arith, none))
        | inl some ↦ elim first [
          | inl none ↦ inl none
          | inr other ↦ inr (λ same. other ((are r s read holds again held (number - 1) (omega (arith, some))).part ∙ same ∙ sym here))
        ]
      ] in
      begins_first a.image r s read kind number (record { part = part; at = at }) (omega (arith, inside, list_count a r holds kind)) alone here (place ∙ ap held_place start)

  -- RUNS

  -- the first written run is one of the written file
  pub first_known : IsSomeWorld a → IsSomeWorld b → (firsts : List ℕ) (j : ℕ) → OfBoth a b (λ r s. AreFirstRuns kind r s firsts) → j < length (runs_held a kind) → slice_index firsts j < length b.views
  first_known (reach, is) (range, was) firsts j first inside =
      let follows = first is.r was.r is.read is.holds was.read was.holds j (omega (arith, inside, run_count a is.r is.holds kind)) in
      let known : slice_index firsts j < length was.r.views = follows.follows.inside in
      omega (arith, known, run_count b was.r was.holds Locations)

  pub next_more :
      (number : ℕ) (firsts : List ℕ) (due : List Place) (d : HeldList) (e : HeldViews) (here : Place) (len at : ℕ) → number < length (lists_held a kind) → length due < length (runs_held a kind) → OfBoth a b (λ r s. AreFirstRuns kind r s firsts) →
      (get_or (runs_held a kind) (length due) e).list ≡ (get_or (lists_held a kind) number d).at → OfBoth b b (λ r s. RunHasLength s (view_at s.views (slice_index firsts (length due))) len) → at ≡ min (here.at + len) (2 ^ 64 - 1) →
      OfBoth a b (λ r s. IsNextDue kind r s number due here) → OfBoth a b (λ r s. IsNextDue kind r s number (due ++ here ∷ []) (record { part = here.part; at = at }))
  next_more number firsts due d e here len at inside known first with has place before = λ r s read holds again held.
      let follows = first r s read holds again held (length due) (omega (arith, known, run_count a r holds kind)) in
      let length_of : RunHasLength s (view_at s.views (slice_index firsts (length due))) len = has s s again held again held in
      run_more a.image r s read kind number due here (record { part = here.part; at = at }) len (omega (arith, inside, list_count a r holds kind))
      (sym (held_run a r holds kind (length due) e known) ∙ with ∙ held_at a r holds kind number d inside)
      (before r s read holds again held) (slice_index firsts (length due), follows, length_of) refl place

  pub swept_more :
      (number from to : ℕ) (d : HeldList) (e : HeldViews) → number < length (lists_held a kind) → to < length (runs_held a kind) → (get_or (runs_held a kind) to e).list ≡ (get_or (lists_held a kind) number d).at → AreRunsSwept a kind number from to →
      AreRunsSwept a kind number from (to + 1)
  swept_more number from to d e inside known with are = record {
    more = let past = are.more in omega arith;
    inside = omega arith;
    own = λ j list run past less. elim (cases_lt j to) [
      | inl before ↦ are.own j list run past before
      | inr rest ↦
          let here : to ≡ j = omega (arith, rest, less) in
          let place : (get_or (lists_held a kind) number list).at ≡ (get_or (lists_held a kind) number d).at = ap (λ (z : HeldList). z.at) (get_or_default (lists_held a kind) number list d inside) in
          let own : (get_or (runs_held a kind) to run).list ≡ (get_or (runs_held a kind) to e).list = ap (λ (z : HeldViews). z.list) (get_or_default (runs_held a kind) to run e known) in
          subst (λ (z : ℕ). (get_or (runs_held a kind) z run).list ≡ (get_or (lists_held a kind) number list).at) here (own ∙ with ∙ sym place)
    ];
  }

  -- LISTS

  -- the runs that are passed are of earlier lists
  pub next_due :
      (number : ℕ) (lists runs : List Place) (begin : Place) → number < length (lists_held a kind) → length lists ≡ number → OfBoth a b (λ r s. AreDue kind r s lists runs) → OfBoth a b (λ r s. IsHeldEnd kind r s number (pieces_before r kind number) begin) → OfBoth a b (λ r s. IsNextDue kind r s number runs begin)
  next_due number lists runs begin inside count are begins = λ r s read holds again held.
      let due = are r s read holds again held in
      runs_begin a.image r s read kind number runs begin (omega (arith, inside, list_count a r holds kind)) (subst (λ (z : ℕ). ArePassed kind r z (length runs)) count due.passed) due.runs_due (begins r s read holds again held)

  pub lists_so_far : (number : ℕ) (lists runs : List Place) → length lists ≡ number → OfBoth a b (λ r s. AreDue kind r s lists runs) → OfBoth a b (λ r s. AreListsDue kind r s number lists)
  lists_so_far number lists runs count are = λ r s read holds again held k less. (are r s read holds again held).lists_due k (omega (arith, less, count))

  pub due_step :
      (number : ℕ) (lists_due runs_due runs_new : List Place) (next : Place) → number < length (lists_held a kind) → length lists_due ≡ number → OfBoth a b (λ r s. AreDue kind r s lists_due runs_due) → OfBoth a b (λ r s. IsNextDue kind r s number runs_new next) →
      AreRunsHeld a kind number (length runs_due) (length runs_new) → OfBoth a b (λ r s. AreDue kind r s (lists_due ++ next ∷ []) runs_new)
  due_step number lists_due runs_due runs_new next inside count are is swept = λ r s read holds again held.
      let known : length lists_due < length (lists_of r kind) = omega (arith, inside, count, list_count a r holds kind) in
      let next_is : IsNextDue kind r s (length lists_due) runs_new next = subst (λ (z : ℕ). IsNextDue kind r s z runs_new next) (sym count) (is r s read holds again held) in
      let runs : AreRunsOf kind r (length lists_due) (length runs_due) (length runs_new) = subst (λ (z : ℕ). AreRunsOf kind r z (length runs_due) (length runs_new)) (sym count) (runs_swept a r holds kind number (length runs_due) (length runs_new) inside swept) in
      due_more a.image r s read kind lists_due runs_due runs_new next known (are r s read holds again held) next_is runs swept.more

  -- ALL OF THEM

  pub all_lists : (lists runs : List Place) → length (lists_held a kind) ≤ length lists → OfBoth a b (λ r s. AreDue kind r s lists runs) → OfBoth a b (λ r s. AreListsDue kind r s (length (lists_of r kind)) lists)
  all_lists lists runs all are = λ r s read holds again held k less. (are r s read holds again held).lists_due k (omega (arith, less, all, list_count a r holds kind))

  pub all_runs : (lists runs : List Place) → length (lists_held a kind) ≤ length lists → OfBoth a b (λ r s. AreDue kind r s lists runs) → OfBoth a b (λ r s. AreRunsDue kind r s (length (runs_of r kind)) runs)
  all_runs lists runs all are = λ r s read holds again held j less.
      let due = are r s read holds again held in
      let passed : length (runs_of r kind) ≤ length runs = runs_passed a.image r s read kind (length lists) (length runs) (omega (arith, all, list_count a r holds kind)) due.passed in
      due.runs_due j (omega (arith, less, passed))

  pub run_total : IsSomeWorld a → IsSomeWorld b → (lists runs : List Place) → length (lists_held a kind) ≤ length lists → length runs ≤ length (runs_held a kind) → OfBoth a b (λ r s. AreDue kind r s lists runs) → length runs ≡ length (runs_held a kind)
  run_total (reach, is) (range, was) lists runs all within are =
      let due = are is.r was.r is.read is.holds was.read was.holds in
      let passed : length (runs_of is.r kind) ≤ length runs = runs_passed a.image is.r was.r is.read kind (length lists) (length runs) (omega (arith, all, list_count a is.r is.holds kind)) due.passed in
      omega (arith, passed, within, run_count a is.r is.holds kind)
