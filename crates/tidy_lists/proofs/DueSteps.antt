-- One more list and one more run of view pairs of those that are due.
use Rattle.std.proofs.Common.{◌≡◌, ◌≢◌, ◌≤◌, ◌<◌, ◌+◌, ◌-◌, ◌^◌, ◌∙◌, inl, inr, ℕ, List, [], ◌∷◌, ◌++◌, length, min, sym, ap, subst, refl, arith}
use Rattle.std.specs.Prelude.{◌⊎◌}
use Rattle.std.proofs.lemmas.Bool.{cases_lt, cases_eq, eq-eqb, ne_eqb}
use Rattle.std.proofs.lemmas.List.{append_assoc, append-nil, length_push, get_or_append_left, get_or_push}
use Rattle.list_model.specs.declared.entry.ListKind.{ListKind}
use Rattle.list_model.specs.Contributions.{lists_at}
use Rattle.value_links.specs.Reading.{Reading, of_kind, part_at, lists_of, list_at, view_at}
use Rattle.value_links.specs.Whole.{IsReading}
use Rattle.tidy_lists.specs.declared.due.Place.{Place}
use Rattle.tidy_lists.specs.Due.{Piece, PieceHasLength, runs_as_pieces, pieces_of}
use Rattle.tidy_lists.specs.Due.Piece.{ARun, AList}
use Rattle.tidy_lists.specs.inside.DuePlaces.{place_at, held_place, runs_of, lists_before, runs_before, part_of, start_of, pieces_before, pieces_before_run, EndsAt, IsHeldEnd, IsListDue, IsRunDue, AreRunsDue, IsNextDue, AreRunsOf, ArePassed, AreDue}
use Rattle.tidy_lists.proofs.FilterLaws.{kept_none, kept_more, kept_all}
use Rattle.tidy_lists.proofs.PieceLaws.{runs_split, runs_append, lists_append, ends_push}
use Rattle.tidy_lists.proofs.OldOrder.{list_rises, parts_rise, run_list, runs_rise}
use Rattle.tidy_lists.proofs.DueLaws.{in_part, of_list, runs_all}

-- a place behind another
pub held_more : (at end len : ℕ) → at ≡ held_place end → min (at + len) (2 ^ 64 - 1) ≡ held_place (end + len)
held_more at end len e = omega (arith, e)

pub push_before : (P : ℕ → Place → Type 0) (places : List Place) (next : Place) → ((k : ℕ) → k < length places → P k (place_at places k)) → P (length places) next → (k : ℕ) → k < length (places ++ next ∷ []) → P k (place_at (places ++ next ∷ []) k)
push_before P places next each here k inside = elim (cases_lt k (length places)) [
  | inl less ↦ subst (P k) (sym (get_or_append_left places (next ∷ []) (record { part = 0; at = 0 }) k less)) (each k less)
  | inr past ↦
      let last : length places ≡ k = omega (arith, past, inside, length_push places next) in
      subst (P k) (sym (get_or_push places next (record { part = 0; at = 0 }) k last)) (subst (λ (z : ℕ). P z next) last here)
]

module _ (file : List ℕ) (r s : Reading) (read : IsReading file r) (kind : ListKind) where
  abbrev lists : ℕ
  lists = length (lists_of r kind)

  abbrev runs : ℕ
  runs = length (runs_of r kind)

  abbrev list_place : ℕ → ℕ
  list_place k = (list_at (lists_of r kind) k).at

  abbrev run_place : ℕ → ℕ
  run_place j = (view_at (runs_of r kind) j).list

  -- WHERE A LIST BEGINS

  with_list : (k : ℕ) → pieces_of r kind (lists_before r kind (part_of r kind k) k ++ k ∷ []) ≡ pieces_before_run r kind k runs ++ AList k ∷ []
  with_list k =
      lists_append r kind (lists_before r kind (part_of r kind k) k) (k ∷ [])
      ∙ ap (λ (z : List ℕ). pieces_before r kind k ++ runs_as_pieces z (AList k ∷ [])) (runs_all r kind k)
      ∙ ap (λ (z : List Piece). pieces_before r kind k ++ z) (runs_split (runs_before r kind k runs) (AList k ∷ []))
      ∙ sym (append_assoc (pieces_before r kind k) (runs_as_pieces (runs_before r kind k runs) []) (AList k ∷ []))

  -- behind the list before, where both are of one contribution
  pub begins_behind : (k : ℕ) (held : Place) (len : ℕ) (next : Place) → part_of r kind (k + 1) ≡ part_of r kind k → IsListDue kind r s k held → PieceHasLength kind r s (AList k) len → next.part ≡ part_of r kind (k + 1) → next.at ≡ min (held.at + len) (2 ^ 64 - 1) → IsHeldEnd kind r s (k + 1) (pieces_before r kind (k + 1)) next
  begins_behind k held len next same due has part at =
      let more : lists_before r kind (part_of r kind (k + 1)) (k + 1) ≡ lists_before r kind (part_of r kind k) k ++ k ∷ [] =
      ap (λ (p : ℕ). lists_before r kind p (k + 1)) same ∙ kept_more (in_part r kind (part_of r kind k)) k (eq-eqb (part_of r kind k) (part_of r kind k) refl) in
      let pieces : pieces_before_run r kind k runs ++ AList k ∷ [] ≡ pieces_before r kind (k + 1) = sym (ap (pieces_of r kind) more ∙ with_list k) in
      let start : start_of r s kind k ≡ start_of r s kind (k + 1) = ap (λ (p : ℕ). lists_at (part_at (of_kind s.links kind) p)) (sym same) in
      let ends : EndsAt kind r s (pieces_before_run r kind k runs ++ AList k ∷ []) (start_of r s kind k) (due.end + len) = ends_push kind r s (pieces_before_run r kind k runs) (AList k) (start_of r s kind k) due.end len due.ends has in
      record {
        part = part;
        end = due.end + len;
        ends = subst (λ (z : ℕ). EndsAt kind r s (pieces_before r kind (k + 1)) z (due.end + len)) start (subst (λ (z : List Piece). EndsAt kind r s z (start_of r s kind k) (due.end + len)) pieces ends);
        at = at ∙ held_more held.at due.end len due.at;
      }

  -- at the beginning, where the list before is of another contribution, or there is none
  pub begins_first : (k : ℕ) (next : Place) → k < lists → (k ≡ 0) ⊎ (part_of r kind (k - 1) ≢ part_of r kind k) → next.part ≡ part_of r kind k → next.at ≡ held_place (start_of r s kind k) → IsHeldEnd kind r s k (pieces_before r kind k) next
  begins_first k next inside first part at =
      let none : lists_before r kind (part_of r kind k) k ≡ [] = kept_none (in_part r kind (part_of r kind k)) 0 k (λ i low high. ne_eqb (part_of r kind i) (part_of r kind k) (λ same. earlier i (omega (arith, high)) same)) in
      let pieces : [] ≡ pieces_before r kind k = sym (ap (pieces_of r kind) none) in
      record {
        part = part;
        end = start_of r s kind k;
        ends = subst (λ (z : List Piece). EndsAt kind r s z (start_of r s kind k) (start_of r s kind k)) pieces refl;
        at = at;
      }
    where
      earlier : (i : ℕ) → i < k → part_of r kind i ≡ part_of r kind k → ⊥
      earlier i less same = elim first [
        | inl e ↦ omega (arith, e, less)
        | inr apart ↦ elim (cases_eq i (k - 1)) [
          | inl e ↦ apart (ap (part_of r kind) (sym e) ∙ same)
          | inr before ↦
              let up : part_of r kind i ≤ part_of r kind (k - 1) = parts_rise file r read kind i (k - 1) (omega (arith, less, before)) (omega (arith, inside)) in
              let on : part_of r kind (k - 1) ≤ part_of r kind k = parts_rise file r read kind (k - 1) k (omega (arith, less)) inside in
              apart (omega (arith, up, on, same))
        ]
      ]

  -- RUNS

  -- the runs that are passed are of earlier lists
  pub runs_begin : (k : ℕ) (due : List Place) (next : Place) → k < lists → ArePassed kind r k (length due) → AreRunsDue kind r s (length due) due → IsHeldEnd kind r s k (pieces_before r kind k) next → IsNextDue kind r s k due next
  runs_begin k due next inside are due_too begins =
      let none : runs_before r kind k (length due) ≡ [] = kept_none (of_list r kind k) 0 (length due) (λ j low high. ne_eqb (run_place j) (list_place k) (λ same. earlier j (omega (arith, high)) same)) in
      let pieces : pieces_before r kind k ≡ pieces_before_run r kind k (length due) = sym (ap (λ (z : List ℕ). pieces_before r kind k ++ runs_as_pieces z []) none ∙ append-nil (pieces_before r kind k)) in
      record { next_due = subst (λ (z : List Piece). IsHeldEnd kind r s k z next) pieces begins; runs_due = due_too }
    where
      earlier : (j : ℕ) → j < length due → run_place j ≡ list_place k → ⊥
      earlier j less same =
          let (i, before, with) = are.passed j less in
          let rising : list_place i < list_place k = list_rises file r read kind i k before inside in
          omega (arith, rising, with, same)

  -- one more run of the list
  pub run_more : (k : ℕ) (due : List Place) (here next : Place) (len : ℕ) → k < lists → run_place (length due) ≡ list_place k → IsNextDue kind r s k due here → PieceHasLength kind r s (ARun (length due)) len → next.part ≡ here.part → next.at ≡ min (here.at + len) (2 ^ 64 - 1) → IsNextDue kind r s k (due ++ here ∷ []) next
  run_more k due here next len inside with before has part at =
      let j : ℕ = length due in
      let was = before.next_due in
      let more : runs_before r kind k (j + 1) ≡ runs_before r kind k j ++ j ∷ [] = kept_more (of_list r kind k) j (eq-eqb (run_place j) (list_place k) with) in
      let count : j + 1 ≡ length (due ++ here ∷ []) = sym (length_push due here) in
      let pieces : pieces_before_run r kind k j ++ ARun j ∷ [] ≡ pieces_before_run r kind k (length (due ++ here ∷ [])) =
      sym (ap (pieces_before_run r kind k) (sym count) ∙ ap (λ (z : List ℕ). pieces_before r kind k ++ runs_as_pieces z []) more ∙ ap (λ (z : List Piece). pieces_before r kind k ++ z) (runs_append (runs_before r kind k j) (j ∷ []) [] ∙ runs_split (runs_before r kind k j) (ARun j ∷ [])) ∙ sym (append_assoc (pieces_before r kind k) (runs_as_pieces (runs_before r kind k j) []) (ARun j ∷ []))) in
      let ends : EndsAt kind r s (pieces_before_run r kind k j ++ ARun j ∷ []) (start_of r s kind k) (was.end + len) = ends_push kind r s (pieces_before_run r kind k j) (ARun j) (start_of r s kind k) was.end len was.ends has in
      record {
        next_due = record {
          part = part ∙ was.part;
          end = was.end + len;
          ends = subst (λ (z : List Piece). EndsAt kind r s z (start_of r s kind k) (was.end + len)) pieces ends;
          at = at ∙ held_more here.at was.end len was.at;
        };
        runs_due = push_before (IsRunDue kind r s) due here before.runs_due (record { k = k; inside = inside; with = with; due = was });
      }

  -- LISTS THAT ARE PASSED

  module _ (k from to : ℕ) (inside : k < lists) (are : ArePassed kind r k from) (swept : AreRunsOf kind r k from to) (more : from ≤ to) where
    -- a run behind those of the list is of a later one
    later : (j : ℕ) → to ≤ j → j < runs → list_place k < run_place j
    later j past known =
        let there : to < runs = omega (arith, past, known) in
        let (h, h_in, with) = run_list file r read kind to there in
        let first : list_place k < run_place to = elim (cases_lt k h) [
          | inl less ↦ (let rising : list_place k < list_place h = list_rises file r read kind k h less h_in in omega (arith, rising, with))
          | inr rest ↦ elim (cases_eq h k) [
            | inl e ↦ absurd (swept.other there (with ∙ ap list_place e))
            | inr apart ↦ (let ahead : list_place h < run_place to = are.ahead to h more there (omega (arith, rest, apart)) in absurd (omega (arith, ahead, with)))
          ]
        ] in
        let on : run_place to ≤ run_place j = elim (cases_lt to j) [
          | inl less ↦ runs_rise file r read kind to j less known
          | inr rest ↦ (let same : run_place to ≡ run_place j = ap run_place (let e : to ≡ j = omega (arith, past, rest) in e) in omega (arith, same))
        ] in
        omega (arith, first, on)

    pub passed_more : ArePassed kind r (k + 1) to
    passed_more = record {
      inside = swept.inside;
      passed = λ j less. elim (cases_lt j from) [
        | inl before ↦ (let (i, i_in, with) = are.passed j before in (i, omega (arith, i_in), with))
        | inr past ↦ (k, omega arith, swept.own j past less)
      ];
      ahead = λ j i past known less. elim (cases_lt i k) [
        | inl before ↦ are.ahead j i (omega (arith, past, more)) known before
        | inr rest ↦ subst (λ (z : ℕ). list_place z < run_place j) (let e : k ≡ i = omega (arith, rest, less) in e) (later j past known)
      ];
    }

    -- so the list is due behind its runs
    pub list_behind : (held : Place) → IsHeldEnd kind r s k (pieces_before_run r kind k to) held → IsListDue kind r s k held
    list_behind held due =
        let all : runs_before r kind k runs ≡ runs_before r kind k to = kept_all (of_list r kind k) to runs swept.inside (λ j low high. ne_eqb (run_place j) (list_place k) (λ same. (let after : list_place k < run_place j = later j low high in omega (arith, after, same)))) in
        subst (λ (z : List ℕ). IsHeldEnd kind r s k (pieces_before r kind k ++ runs_as_pieces z []) held) (sym all) due

  pub due_more : (lists_due runs_due runs_new : List Place) (next : Place) → length lists_due < lists → AreDue kind r s lists_due runs_due → IsNextDue kind r s (length lists_due) runs_new next → AreRunsOf kind r (length lists_due) (length runs_due) (length runs_new) → length runs_due ≤ length runs_new → AreDue kind r s (lists_due ++ next ∷ []) runs_new
  due_more lists_due runs_due runs_new next inside due is swept more =
      let k : ℕ = length lists_due in
      record {
        lists_due = push_before (IsListDue kind r s) lists_due next due.lists_due (list_behind k (length runs_due) (length runs_new) inside due.passed swept more next is.next_due);
        runs_due = is.runs_due;
        passed = subst (λ (z : ℕ). ArePassed kind r z (length runs_new)) (sym (length_push lists_due next)) (passed_more k (length runs_due) (length runs_new) inside due.passed swept more);
      }

  -- where all lists are passed, all runs are
  pub runs_passed : (count passed : ℕ) → lists ≤ count → ArePassed kind r count passed → runs ≤ passed
  runs_passed count passed all are = elim (cases_lt passed runs) [
    | inr within ↦ within
    | inl less ↦
        let (h, h_in, with) = run_list file r read kind passed less in
        let ahead : list_place h < run_place passed = are.ahead passed h (omega arith) less (omega (arith, h_in, all)) in
        absurd (omega (arith, ahead, with))
  ]
