-- Where no list and no run stands elsewhere than where it is due, each old one is one written one, and these follow each other as the old ones do.
use Rattle.std.proofs.Common.{◌≡◌, ◌≢◌, ◌≤◌, ◌<◌, ◌+◌, ◌∙◌, ◌⊎◌, inl, inr, ℕ, List, ◌∷◌, length, sym, ap, subst, refl, arith}
use Rattle.std.proofs.lemmas.Bool.{cases_eq, cases_lt, cases_order}
use Rattle.list_model.specs.declared.entry.ListKind.{ListKind}
use Rattle.list_model.specs.declared.entry.ListKind.TheVariants.{Ranges, Locations}
use Rattle.list_model.specs.Contributions.{lists_at}
use Rattle.value_links.specs.Reading.{ViewRead, Reading, of_kind, lists_of, part_at, list_at, view_at}
use Rattle.value_links.specs.Lists.{AreViewsApart}
use Rattle.value_links.specs.Same.{Same}
use Rattle.value_links.specs.Whole.{IsReading}
use Rattle.tidy_lists.specs.Followers.{Follows, RunFollows, HasLength, RunHasLength}
use Rattle.tidy_lists.specs.Due.{Piece, PieceHasLength, IsDueAmong, IsListElsewhere, IsRunElsewhere, IsElsewhere, pieces_in}
use Rattle.tidy_lists.specs.Due.Piece.{ARun, AList}
use Rattle.tidy_lists.specs.inside.DuePlaces.{runs_of, part_of, start_of, pieces_before_run, EndsAt}
use Rattle.tidy_lists.proofs.BothWays.{list_after, run_after}
use Rattle.tidy_lists.proofs.DueLaws.{pieces_behind, runs_behind, at_list, at_run}
use Rattle.tidy_lists.proofs.LengthsThere.{list_long, run_long}
use Rattle.tidy_lists.proofs.OneLength.{list_number, piece_length}
use Rattle.tidy_lists.proofs.PieceLaws.{due_there}
use Rattle.tidy_lists.proofs.PiecesBefore.{no_least, IsKnown, before_known, list_comes, run_comes, ends_from, IsCutAt, ends_cut, no_end}
use Rattle.tidy_lists.specs.Due.{runs_as_pieces}

-- the lists with which an old run and the written one go, one of which is the other
pub record GoAlong (r s : Reading) (j n : ℕ) : Type 0 where
  pub k : ℕ
  pub m : ℕ
  pub from : (view_at r.views j).list ≡ (list_at r.location_lists k).at
  pub to : (view_at s.views n).list ≡ (list_at s.location_lists m).at
  pub follows : Follows Locations r s k m

module _ (file written : List ℕ) (r s : Reading) (read : IsReading file r) (again : IsReading written s) (same : Same file written)
    (none : (kind : ListKind) (at : ℕ) → IsElsewhere kind r s at → ⊥) (along : (j n : ℕ) → RunFollows r s j n → GoAlong r s j n) where
  no_list : (kind : ListKind) (at : ℕ) → IsListElsewhere kind r s at → ⊥
  no_list Ranges at bad = none Ranges at bad
  no_list Locations at bad = none Locations at (inl bad)

  no_run : (at : ℕ) → IsRunElsewhere r s at → ⊥
  no_run at bad = none Locations at (inr bad)

  -- each old thing has a length
  some_length : (kind : ListKind) (piece : Piece) → IsKnown r kind piece → ((len : ℕ) → PieceHasLength kind r s piece len → ⊥) → ⊥
  some_length kind (AList k) known never =
      let (m, follows) = list_after file written r s read again same kind k known in
      no_least (Follows kind r s k) m follows (λ n is first. (let (len, some, has) = list_long written s again kind n is.inside in never len (n, record { follows = is; first = first }, has)))
  some_length Ranges (ARun j) known never = absurd (omega (arith, known))
  some_length Locations (ARun j) known never =
      let (m, follows) = run_after file written r s read again same j known in
      no_least (RunFollows r s j) m follows (λ n is first. (let (len, has) = run_long written s again n is.inside in never len (n, record { follows = is; first = first }, has)))

  -- so what is due before a thing ends somewhere
  no_end_before : (kind : ListKind) (k j : ℕ) → k < length (lists_of r kind) → j ≤ length (runs_of r kind) →
      ((end : ℕ) → EndsAt kind r s (pieces_before_run r kind k j) (start_of r s kind k) end → ⊥) → ⊥
  no_end_before kind k j inside within never =
      no_end kind r s (some_length kind) (pieces_before_run r kind k j) (start_of r s kind k) (before_known r kind k j inside within) never

  module _ (kind : ListKind) where
    abbrev all_runs : ℕ
    all_runs = length (runs_of r kind)

    abbrev EndBefore : ℕ → ℕ → ℕ → Type 0
    EndBefore k j end = EndsAt kind r s (pieces_before_run r kind k j) (start_of r s kind k) end

    -- LISTS

    module _ (k m end : ℕ) (follows : Follows kind r s k m) (ends : EndBefore k all_runs end) where
      is_due : IsDueAmong kind r s (pieces_in r kind (part_of r kind k)) (start_of r s kind k) (AList k) end
      is_due =
          subst (λ (z : List Piece). IsDueAmong kind r s z (start_of r s kind k) (AList k) end) (sym (at_list r kind k follows.known))
          (due_there kind r s (pieces_before_run r kind k all_runs) (pieces_behind r kind k) (AList k) (start_of r s kind k) end ends)

      not_elsewhere : ((list_at (lists_of s kind) m).at ≢ end) ⊎ ((list_at (lists_of s kind) m).part ≢ (list_at (lists_of r kind) k).part) → ⊥
      not_elsewhere elsewhere = no_list kind (list_at (lists_of s kind) m).at (record { k = k; m = m; follows = follows; due = end; is_due = is_due; place = refl; elsewhere = elsewhere })

      list_place : (list_at (lists_of s kind) m).at ≡ end
      list_place = elim (cases_eq (list_at (lists_of s kind) m).at end) [ inl e ↦ e | inr other ↦ absurd (not_elsewhere (inl other)) ]

    -- a written list is in the contribution of the old one
    pub list_part : (k m : ℕ) → Follows kind r s k m → (list_at (lists_of s kind) m).part ≡ (list_at (lists_of r kind) k).part
    list_part k m follows = elim (cases_eq (list_at (lists_of s kind) m).part (list_at (lists_of r kind) k).part) [
      | inl e ↦ e
      | inr other ↦ absurd (no_end_before kind k all_runs follows.known (omega arith) (λ end ends. not_elsewhere k m end follows ends (inr other)))
    ]

    -- an old list is one written list
    pub one_list : (k m n : ℕ) → Follows kind r s k m → Follows kind r s k n → m ≡ n
    one_list k m n first second = elim (cases_eq m n) [
      | inl e ↦ e
      | inr other ↦ absurd (no_end_before kind k all_runs first.known (omega arith) (λ end ends. other (list_number (lists_of s kind) (again.lists kind).rising m n first.inside second.inside (list_place k m end first ends ∙ sym (list_place k n end second ends)))))
    ]

    list_len : (k m len size : ℕ) → Follows kind r s k m → PieceHasLength kind r s (AList k) len →
        HasLength kind s (list_at (lists_of s kind) m) size → len ≡ size
    list_len k m len size follows (n, first, has) long =
        let e : m ≡ n = one_list k m n follows first.follows in
        piece_length written s again kind r (AList k) len size (n, first, has) (n, first, subst (λ (z : ℕ). HasLength kind s (list_at (lists_of s kind) z) size) e long)

    -- It stands behind the start of its contribution, and what is due behind it of a later list stands behind it.
    pub list_from : (k m : ℕ) → Follows kind r s k m → start_of r s kind k ≤ (list_at (lists_of s kind) m).at
    list_from k m follows = elim (cases_lt (list_at (lists_of s kind) m).at (start_of r s kind k)) [
      | inr past ↦ past
      | inl before ↦ absurd (no_end_before kind k all_runs follows.known (omega arith) (λ end ends.
          let from : start_of r s kind k ≤ end = ends_from kind r s (pieces_before_run r kind k all_runs) (start_of r s kind k) end ends in
          let here = list_place k m end follows ends in
          omega (arith, from, here, before)))
    ]

    list_then : (k m len l j place : ℕ) → Follows kind r s k m → HasLength kind s (list_at (lists_of s kind) m) len → k < l →
        l < length (lists_of r kind) → j ≤ all_runs → part_of r kind k ≡ part_of r kind l → ((end : ℕ) → EndBefore l j end → place ≡ end) →
        (list_at (lists_of s kind) m).at + len ≤ place
    list_then k m len l j place follows long less inside within part there = elim (cases_lt place ((list_at (lists_of s kind) m).at + len)) [
      | inr past ↦ past
      | inl before ↦ absurd (no_end_before kind l j inside within (λ end ends.
          let (more, cut) = list_comes r kind k l j less part in
          let start : ℕ = start_of r s kind l in
          let front : List Piece = pieces_before_run r kind k all_runs in
          let at : IsCutAt kind r s front (AList k) start end =
          ends_cut kind r s front (AList k) more start end (subst (λ (z : List Piece). EndsAt kind r s z start end) cut ends) in
          let own : EndBefore k all_runs at.due =
          subst (λ (z : ℕ). EndsAt kind r s front z at.due) (ap (λ (p : ℕ). lists_at (part_at (of_kind s.links kind) p)) (sym part)) at.ends in
          let here = list_place k m at.due follows own in
          let size = list_len k m at.len len follows at.has long in
          let over = there end ends in
          omega (arith, here, size, over, before, at.order)))
    ]

    -- lists follow each other as the old ones
    pub lists_follow : (k m len l n : ℕ) → Follows kind r s k m → Follows kind r s l n → HasLength kind s (list_at (lists_of s kind) m) len → k < l →
        part_of r kind k ≡ part_of r kind l → (list_at (lists_of s kind) m).at + len ≤ (list_at (lists_of s kind) n).at
    lists_follow k m len l n first second long less part =
        list_then k m len l all_runs (list_at (lists_of s kind) n).at first long less second.known (omega arith) part (λ end ends. list_place l n end second ends)

    -- two old lists aren't one written list
    pub one_old_list : (k l m : ℕ) → Follows kind r s k m → Follows kind r s l m → k ≡ l
    one_old_list k l m first second =
        let parts : part_of r kind k ≡ part_of r kind l = sym (list_part k m first) ∙ list_part l m second in
        let (len, some, long) = list_long written s again kind m first.inside in
        elim (cases_order k l) [
          | inl e ↦ e
          | inr (inl less) ↦ absurd (let over = lists_follow k m len l m first second long less parts in omega (arith, over, some))
          | inr (inr more) ↦ absurd (let over = lists_follow l m len k m second first long more (sym parts) in omega (arith, over, some))
        ]

  -- RUNS OF VIEW PAIRS

  abbrev views : ℕ
  views = length r.views

  module _ (j n k end : ℕ) (follows : RunFollows r s j n) (inside : k < length r.location_lists)
      (with : (view_at r.views j).list ≡ (list_at r.location_lists k).at) (ends : EndBefore Locations k j end) where
    run_due : IsDueAmong Locations r s (pieces_in r Locations (part_of r Locations k)) (start_of r s Locations k) (ARun j) end
    run_due =
        subst (λ (z : List Piece). IsDueAmong Locations r s z (start_of r s Locations k) (ARun j) end) (sym (at_run r Locations k j inside follows.known with))
        (due_there Locations r s (pieces_before_run r Locations k j) (runs_as_pieces (runs_behind r Locations k j) (AList k ∷ pieces_behind r Locations k)) (ARun j) (start_of r s Locations k) end ends)

    run_place : (view_at s.views n).at ≡ end
    run_place = elim (cases_eq (view_at s.views n).at end) [
      | inl e ↦ e
      | inr other ↦ absurd (no_run (view_at s.views n).at (record { j = j; n = n; follows = follows; p = part_of r Locations k; part = record { k = k; inside = inside; list = sym with; part = refl }; due = end; is_due = run_due; place = refl; elsewhere = inl other }))
    ]

  -- an old run is one written run
  pub one_run : (j n o : ℕ) → RunFollows r s j n → RunFollows r s j o → n ≡ o
  one_run j n o first second = elim (cases_order n o) [
    | inl e ↦ e
    | inr (inl less) ↦ absurd (not_both n o first second (again.views.rising n o less second.inside))
    | inr (inr more) ↦ absurd (not_both o n second first (again.views.rising o n more first.inside))
  ]
    where
      apart_no : (v w : ViewRead) → AreViewsApart v w → v.list ≡ w.list → v.at ≡ w.at → ⊥
      apart_no v w (inl less) list at = omega (arith, less, list)
      apart_no v w (inr (list, less)) also at = omega (arith, less, at)

      not_both : (n o : ℕ) → RunFollows r s j n → RunFollows r s j o → AreViewsApart (view_at s.views n) (view_at s.views o) → ⊥
      not_both n o first second apart =
          let one : GoAlong r s j n = along j n first in
          let two : GoAlong r s j o = along j o second in
          let old : one.k ≡ two.k =
          list_number r.location_lists (read.lists Locations).rising one.k two.k one.follows.known two.follows.known (sym one.from ∙ two.from) in
          let new : one.m ≡ two.m =
          one_list Locations two.k one.m two.m (subst (λ (z : ℕ). Follows Locations r s z one.m) old one.follows) two.follows in
          let lists : (view_at s.views n).list ≡ (view_at s.views o).list =
          one.to ∙ ap (λ (z : ℕ). (list_at s.location_lists z).at) new ∙ sym two.to in
          no_end_before Locations one.k j one.follows.known (let known : j < views = first.known in omega arith) (λ end ends.
          apart_no (view_at s.views n) (view_at s.views o) apart lists (run_place j n one.k end first one.follows.known one.from ends ∙ sym (run_place j o one.k end second one.follows.known one.from ends)))

  run_len : (j n len size : ℕ) → RunFollows r s j n → PieceHasLength Locations r s (ARun j) len → RunHasLength s (view_at s.views n) size → len ≡ size
  run_len j n len size follows (o, first, has) long =
      let e : n ≡ o = one_run j n o follows first.follows in
      piece_length written s again Locations r (ARun j) len size (o, first, has) (o, first, subst (λ (z : ℕ). RunHasLength s (view_at s.views z) size) e long)

  -- it stands behind the start of the contribution of its list
  pub run_from : (j n : ℕ) → RunFollows r s j n → (a : GoAlong r s j n) → start_of r s Locations a.k ≤ (view_at s.views n).at
  run_from j n follows a = elim (cases_lt (view_at s.views n).at (start_of r s Locations a.k)) [
    | inr past ↦ past
    | inl before ↦ absurd (no_end_before Locations a.k j a.follows.known (let known : j < views = follows.known in omega arith) (λ end ends.
        let from : start_of r s Locations a.k ≤ end =
        ends_from Locations r s (pieces_before_run r Locations a.k j) (start_of r s Locations a.k) end ends in
        let here = run_place j n a.k end follows a.follows.known a.from ends in
        omega (arith, from, here, before)))
  ]

  run_then : (j n len k i place : ℕ) → RunFollows r s j n → RunHasLength s (view_at s.views n) len → k < length r.location_lists →
      (view_at r.views j).list ≡ (list_at r.location_lists k).at → j < i → i ≤ views → ((end : ℕ) → EndBefore Locations k i end → place ≡ end) →
      (view_at s.views n).at + len ≤ place
  run_then j n len k i place follows long inside with less within there = elim (cases_lt place ((view_at s.views n).at + len)) [
    | inr past ↦ past
    | inl before ↦ absurd (no_end_before Locations k i inside within (λ end ends.
        let (more, cut) = run_comes r Locations k j i less with in
        let start : ℕ = start_of r s Locations k in
        let front : List Piece = pieces_before_run r Locations k j in
        let at : IsCutAt Locations r s front (ARun j) start end =
        ends_cut Locations r s front (ARun j) more start end (subst (λ (z : List Piece). EndsAt Locations r s z start end) cut ends) in
        let here = run_place j n k at.due follows inside with at.ends in
        let size = run_len j n at.len len follows at.has long in
        let over = there end ends in
        omega (arith, here, size, over, before, at.order)))
  ]

  -- a run stands before its list
  pub run_before_list : (j n len k m : ℕ) → RunFollows r s j n → RunHasLength s (view_at s.views n) len →
      (view_at r.views j).list ≡ (list_at r.location_lists k).at → Follows Locations r s k m →
      (view_at s.views n).at + len ≤ (list_at s.location_lists m).at
  run_before_list j n len k m follows long with list =
      run_then j n len k views (list_at s.location_lists m).at follows long list.known with follows.known (omega arith) (λ end ends. list_place Locations k m end list ends)

  -- and before a later run of it
  pub run_before_run : (j n len k i o : ℕ) → RunFollows r s j n → RunHasLength s (view_at s.views n) len → k < length r.location_lists →
      (view_at r.views j).list ≡ (list_at r.location_lists k).at → RunFollows r s i o → (view_at r.views i).list ≡ (list_at r.location_lists k).at →
      j < i → (view_at s.views n).at + len ≤ (view_at s.views o).at
  run_before_run j n len k i o first long inside with second also less =
      run_then j n len k i (view_at s.views o).at first long inside with less (let known : i < views = second.known in omega arith) (λ end ends. run_place i o k end second inside also ends)

  -- and a list before each run of a later list
  pub list_before_run : (k m len l j n : ℕ) → Follows Locations r s k m → HasLength Locations s (list_at s.location_lists m) len → k < l →
      l < length r.location_lists → part_of r Locations k ≡ part_of r Locations l → RunFollows r s j n →
      (view_at r.views j).list ≡ (list_at r.location_lists l).at → (list_at s.location_lists m).at + len ≤ (view_at s.views n).at
  list_before_run k m len l j n list long less inside part follows with =
      list_then Locations k m len l j (view_at s.views n).at list long less inside (let known : j < views = follows.known in omega arith) part (λ end ends. run_place j n l end follows inside with ends)
