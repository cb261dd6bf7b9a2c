-- What a contribution is to hold, cut at a list and at a run of view pairs: each is due at one place, where what stands before it ends.
use Rattle.std.proofs.Common.{◌≡◌, ◌<◌, ◌+◌, ◌-◌, ◌∙◌, inl, inr, ℕ, List, [], ◌∷◌, ◌++◌, length, Bool, sym, ap, subst, refl, arith}
use Rattle.std.specs.Prelude.{filter, nat_eq}
use Rattle.std.specs.List.{range_with_len}
use Rattle.std.proofs.lemmas.Bool.{eqb-true, eq-eqb}
use Rattle.std.proofs.lemmas.List.{append_assoc}
use Rattle.list_model.specs.declared.entry.ListKind.{ListKind}
use Rattle.list_model.specs.declared.entry.ListKind.TheVariants.{Ranges, Locations}
use Rattle.value_links.specs.Reading.{Reading, lists_of, list_at, view_at}
use Rattle.value_links.specs.Whole.{IsReading}
use Rattle.tidy_lists.specs.declared.due.Place.{Place}
use Rattle.tidy_lists.specs.Due.{Piece, IsDueAmong, IsDue, runs_with, runs_as_pieces, pieces_of, pieces_in}
use Rattle.tidy_lists.specs.Due.Piece.{ARun, AList}
use Rattle.tidy_lists.specs.inside.DuePlaces.{held_place, runs_of, lists_before, runs_before, part_of, start_of, pieces_before, pieces_before_run, EndsAt, IsListDue, IsRunDue}
use Rattle.tidy_lists.proofs.FilterLaws.{IsOneOf, kept, kept_cut}
use Rattle.tidy_lists.proofs.PieceLaws.{IsAmong, among_cases, runs_split, runs_append, lists_append, list_no_run, run_one, list_one, run_among, due_there, due_only, ends_once}
use Rattle.tidy_lists.proofs.OneLength.{list_number, piece_length}
use Rattle.tidy_lists.proofs.OldOrder.{list_rises}

pub runs_all : (r : Reading) (kind : ListKind) (k : ℕ) → runs_with r kind k ≡ runs_before r kind k (length (runs_of r kind))
runs_all r Ranges k = refl
runs_all r Locations k = refl

module _ (r : Reading) (kind : ListKind) where
  abbrev pub in_part : ℕ → ℕ → Bool
  in_part p i = nat_eq (list_at (lists_of r kind) i).part p

  abbrev pub of_list : ℕ → ℕ → Bool
  of_list k i = nat_eq (view_at (runs_of r kind) i).list (list_at (lists_of r kind) k).at

  -- the lists of its contribution behind one with a number
  abbrev pub lists_behind : ℕ → List ℕ
  lists_behind k = filter (in_part (part_of r kind k)) (range_with_len (k + 1) (length (lists_of r kind) - k - 1))

  abbrev pub pieces_behind : ℕ → List Piece
  pieces_behind k = pieces_of r kind (lists_behind k)

  abbrev pub runs_behind : ℕ → ℕ → List ℕ
  runs_behind k j = filter (of_list k) (range_with_len (j + 1) (length (runs_of r kind) - j - 1))

  around : (k : ℕ) → k < length (lists_of r kind) → pieces_in r kind (part_of r kind k) ≡ pieces_before r kind k ++ runs_as_pieces (runs_with r kind k) (AList k ∷ pieces_behind k)
  around k inside =
      ap (pieces_of r kind) (kept_cut (in_part (part_of r kind k)) (length (lists_of r kind)) k inside (eq-eqb (part_of r kind k) (part_of r kind k) refl))
      ∙ lists_append r kind (lists_before r kind (part_of r kind k) k) (k ∷ lists_behind k)

  pub at_list : (k : ℕ) → k < length (lists_of r kind) → pieces_in r kind (part_of r kind k) ≡ pieces_before_run r kind k (length (runs_of r kind)) ++ AList k ∷ pieces_behind k
  at_list k inside =
      around k inside
      ∙ ap (λ (z : List ℕ). pieces_before r kind k ++ runs_as_pieces z (AList k ∷ pieces_behind k)) (runs_all r kind k)
      ∙ ap (λ (z : List Piece). pieces_before r kind k ++ z) (runs_split (runs_before r kind k (length (runs_of r kind))) (AList k ∷ pieces_behind k))
      ∙ sym (append_assoc (pieces_before r kind k) (runs_as_pieces (runs_before r kind k (length (runs_of r kind))) []) (AList k ∷ pieces_behind k))

  pub at_run : (k j : ℕ) → k < length (lists_of r kind) → j < length (runs_of r kind) → (view_at (runs_of r kind) j).list ≡ (list_at (lists_of r kind) k).at →
      pieces_in r kind (part_of r kind k) ≡ pieces_before_run r kind k j ++ ARun j ∷ runs_as_pieces (runs_behind k j) (AList k ∷ pieces_behind k)
  at_run k j inside known with =
      let behind : List Piece = ARun j ∷ runs_as_pieces (runs_behind k j) (AList k ∷ pieces_behind k) in
      around k inside
      ∙ ap (λ (z : List ℕ). pieces_before r kind k ++ runs_as_pieces z (AList k ∷ pieces_behind k)) (runs_all r kind k ∙ kept_cut (of_list k) (length (runs_of r kind)) j known (eq-eqb (view_at (runs_of r kind) j).list (list_at (lists_of r kind) k).at with))
      ∙ ap (λ (z : List Piece). pieces_before r kind k ++ z) (runs_append (runs_before r kind k j) (j ∷ runs_behind k j) (AList k ∷ pieces_behind k) ∙ runs_split (runs_before r kind k j) behind)
      ∙ sym (append_assoc (pieces_before r kind k) (runs_as_pieces (runs_before r kind k j) []) behind)

  -- EACH STANDS THERE ONCE

  list_before : (k : ℕ) → IsAmong (AList k) (pieces_before r kind k) → ⊥
  list_before k there =
      let (low, high, passes) = kept (in_part (part_of r kind k)) 0 k k (list_one r kind k (lists_before r kind (part_of r kind k) k) there) in
      omega (arith, high)

  list_behind : (k : ℕ) → IsAmong (AList k) (pieces_behind k) → ⊥
  list_behind k there =
      let (low, high, passes) = kept (in_part (part_of r kind k)) (k + 1) (length (lists_of r kind) - k - 1) k (list_one r kind k (lists_behind k) there) in
      omega (arith, low)

  pub list_once_before : (k j : ℕ) → IsAmong (AList k) (pieces_before_run r kind k j) → ⊥
  list_once_before k j there = elim (among_cases (AList k) (pieces_before r kind k) (runs_as_pieces (runs_before r kind k j) []) there) [
    | inl before ↦ list_before k before
    | inr run ↦ list_no_run k (runs_before r kind k j) run
  ]

  -- a run goes with one list
  module _ (rising : (i k : ℕ) → i < k → k < length (lists_of r kind) → (list_at (lists_of r kind) i).at < (list_at (lists_of r kind) k).at) (k j : ℕ) (inside : k < length (lists_of r kind)) (with : (view_at (runs_of r kind) j).list ≡ (list_at (lists_of r kind) k).at) where
    own_list : (i : ℕ) → i < length (lists_of r kind) → IsOneOf j (runs_with r kind i) → i ≡ k
    own_list i known one =
        let (low, high, passes) = kept (of_list i) 0 (length (runs_of r kind)) j (subst (IsOneOf j) (runs_all r kind i) one) in
        let there : (view_at (runs_of r kind) j).list ≡ (list_at (lists_of r kind) i).at = eqb-true (view_at (runs_of r kind) j).list (list_at (lists_of r kind) i).at passes in
        list_number (lists_of r kind) rising i k known inside (sym there ∙ with)

    run_before : IsAmong (ARun j) (pieces_before_run r kind k j) → ⊥
    run_before there = elim (among_cases (ARun j) (pieces_before r kind k) (runs_as_pieces (runs_before r kind k j) []) there) [
      | inl before ↦
          let (i, one, run) = run_among r kind j (lists_before r kind (part_of r kind k) k) before in
          let (low, high, passes) = kept (in_part (part_of r kind k)) 0 k i one in
          let same : i ≡ k = own_list i (omega (arith, high)) run in
          omega (arith, high, same)
      | inr run ↦ (let (low, high, passes) = kept (of_list k) 0 j j (run_one j (runs_before r kind k j) run) in omega (arith, high))
    ]

    run_behind : IsAmong (ARun j) (runs_as_pieces (runs_behind k j) (AList k ∷ pieces_behind k)) → ⊥
    run_behind there = elim (among_cases (ARun j) (runs_as_pieces (runs_behind k j) []) (AList k ∷ pieces_behind k) (subst (IsAmong (ARun j)) (runs_split (runs_behind k j) (AList k ∷ pieces_behind k)) there)) [
      | inl run ↦ (let (low, high, passes) = kept (of_list k) (j + 1) (length (runs_of r kind) - j - 1) j (run_one j (runs_behind k j) run) in omega (arith, low))
      | inr list ↦ elim list [
        | inl e ↦ absurd (cc)
        | inr behind ↦
            let (i, one, run) = run_among r kind j (lists_behind k) behind in
            let (low, high, passes) = kept (in_part (part_of r kind k)) (k + 1) (length (lists_of r kind) - k - 1) i one in
            let same : i ≡ k = own_list i (omega (arith, high, inside)) run in
            omega (arith, low, same)
      ]
    ]

-- WHERE THEY ARE DUE

module _ (file other : List ℕ) (r s : Reading) (read : IsReading file r) (again : IsReading other s) (kind : ListKind) where
  end_once : (pieces : List Piece) (start a b : ℕ) → EndsAt kind r s pieces start a → EndsAt kind r s pieces start b → a ≡ b
  end_once = ends_once kind r s (piece_length other s again kind r)

  module _ (k : ℕ) (held : Place) (inside : k < length (lists_of r kind)) (due : IsListDue kind r s k held) where
    pub list_due : IsDue kind r s (part_of r kind k) (AList k) due.end
    list_due =
        subst (λ (z : List Piece). IsDueAmong kind r s z (start_of r s kind k) (AList k) due.end) (sym (at_list r kind k inside))
        (due_there kind r s (pieces_before_run r kind k (length (runs_of r kind))) (pieces_behind r kind k) (AList k) (start_of r s kind k) due.end due.ends)

    pub list_due_once : (at : ℕ) → IsDue kind r s (part_of r kind k) (AList k) at → held.at ≡ held_place at
    list_due_once at is =
        let there : IsDueAmong kind r s (pieces_before_run r kind k (length (runs_of r kind)) ++ AList k ∷ pieces_behind r kind k) (start_of r s kind k) (AList k) at = subst (λ (z : List Piece). IsDueAmong kind r s z (start_of r s kind k) (AList k) at) (at_list r kind k inside) is in
        let ends = due_only kind r s (pieces_before_run r kind k (length (runs_of r kind))) (pieces_behind r kind k) (AList k) (start_of r s kind k) at (list_once_before r kind k (length (runs_of r kind))) (list_behind r kind k) there in
        due.at ∙ ap held_place (end_once (pieces_before_run r kind k (length (runs_of r kind))) (start_of r s kind k) due.end at due.ends ends)

  module _ (j : ℕ) (held : Place) (known : j < length (runs_of r kind)) (due : IsRunDue kind r s j held) where
    abbrev behind_run : List Piece
    behind_run = runs_as_pieces (runs_behind r kind due.k j) (AList due.k ∷ pieces_behind r kind due.k)

    pub run_due : IsDue kind r s (part_of r kind due.k) (ARun j) due.due.end
    run_due =
        subst (λ (z : List Piece). IsDueAmong kind r s z (start_of r s kind due.k) (ARun j) due.due.end) (sym (at_run r kind due.k j due.inside known due.with))
        (due_there kind r s (pieces_before_run r kind due.k j) behind_run (ARun j) (start_of r s kind due.k) due.due.end due.due.ends)

    pub run_due_once : (at : ℕ) → IsDue kind r s (part_of r kind due.k) (ARun j) at → held.at ≡ held_place at
    run_due_once at is =
        let rising = list_rises file r read kind in
        let there : IsDueAmong kind r s (pieces_before_run r kind due.k j ++ ARun j ∷ behind_run) (start_of r s kind due.k) (ARun j) at = subst (λ (z : List Piece). IsDueAmong kind r s z (start_of r s kind due.k) (ARun j) at) (at_run r kind due.k j due.inside known due.with) is in
        let ends = due_only kind r s (pieces_before_run r kind due.k j) behind_run (ARun j) (start_of r s kind due.k) at (run_before r kind rising due.k j due.inside due.with) (run_behind r kind rising due.k j due.inside due.with) there in
        due.due.at ∙ ap held_place (end_once (pieces_before_run r kind due.k j) (start_of r s kind due.k) due.due.end at due.due.ends ends)
