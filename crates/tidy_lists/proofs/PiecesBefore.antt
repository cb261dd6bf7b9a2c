-- What a contribution is to hold before a thing, where another thing is due before it.
use Rattle.std.proofs.Common.{◌≡◌, ◌≢◌, ◌≤◌, ◌<◌, ◌+◌, ◌-◌, ◌∙◌, inl, inr, ℕ, zero, suc, List, [], ◌∷◌, ◌++◌, length, sym, ap, subst, refl, arith}
use Rattle.std.specs.Prelude.{filter}
use Rattle.std.specs.List.{range_with_len}
use Rattle.std.proofs.lemmas.Bool.{cases_eq, eq-eqb}
use Rattle.std.proofs.lemmas.List.{append_assoc}
use Rattle.list_model.specs.declared.entry.ListKind.{ListKind}
use Rattle.value_links.specs.Reading.{Reading, lists_of, list_at, view_at}
use Rattle.tidy_lists.specs.Due.{Piece, PieceHasLength, runs_as_pieces, pieces_of}
use Rattle.tidy_lists.specs.Due.Piece.{ARun, AList}
use Rattle.tidy_lists.specs.inside.DuePlaces.{runs_of, lists_before, runs_before, part_of, pieces_before, pieces_before_run, EndsAt}
use Rattle.tidy_lists.proofs.FilterLaws.{IsOneOf, kept, kept_cut}
use Rattle.tidy_lists.proofs.PieceLaws.{IsAmong, among_cases, runs_split, runs_append, lists_append, list_no_run, run_one, list_one, run_among}
use Rattle.tidy_lists.proofs.DueLaws.{runs_all, in_part, of_list}

-- a number that has something isn't the least one only if there is none
pub no_least : (Has : ℕ → Type 0) (m : ℕ) → Has m → ((n : ℕ) → Has n → ((e : ℕ) → e < n → ¬ Has e) → ⊥) → ⊥
no_least Has m has never = none_below (suc m) m (omega arith) has
  where
    none_below : (n e : ℕ) → e < n → ¬ Has e
    none_below zero e less has = absurd (omega (arith, less))
    none_below (suc n) e less has = elim (cases_eq e n) [
      | inl last ↦ never n (subst Has last has) (none_below n)
      | inr before ↦ none_below n e (let o : e ≢ n = before in omega (arith, less)) has
    ]

module _ (r : Reading) (kind : ListKind) where
  -- a thing of the old file
  abbrev pub IsKnown : Piece → Type 0
  IsKnown (AList k) = k < length (lists_of r kind)
  IsKnown (ARun j) = j < length (runs_of r kind)

  -- what is due before one is
  pub before_known : (k j : ℕ) → k < length (lists_of r kind) → j ≤ length (runs_of r kind) → (piece : Piece) →
      IsAmong piece (pieces_before_run r kind k j) → IsKnown piece
  before_known k j inside within (AList i) there = elim (among_cases (AList i) (pieces_before r kind k) (runs_as_pieces (runs_before r kind k j) []) there) [
    | inl before ↦
        let (low, high, passes) =
        kept (in_part r kind (part_of r kind k)) 0 k i (list_one r kind i (lists_before r kind (part_of r kind k) k) before) in
        omega (arith, high, inside)
    | inr run ↦ absurd (list_no_run i (runs_before r kind k j) run)
  ]
  before_known k j inside within (ARun i) there = elim (among_cases (ARun i) (pieces_before r kind k) (runs_as_pieces (runs_before r kind k j) []) there) [
    | inl before ↦
        let (l, one, run) = run_among r kind i (lists_before r kind (part_of r kind k) k) before in
        let (low, high, passes) =
        kept (of_list r kind l) 0 (length (runs_of r kind)) i (subst (λ (z : List ℕ). IsOneOf i z) (runs_all r kind l) run) in
        omega (arith, high)
    | inr run ↦
        let (low, high, passes) = kept (of_list r kind k) 0 j i (run_one i (runs_before r kind k j) run) in
        omega (arith, high, within)
  ]

  -- what is due before a list, and the list, are due before each thing of a later list of its contribution
  pub list_comes : (k l j : ℕ) → k < l → part_of r kind k ≡ part_of r kind l →
      (more : List Piece) × (pieces_before_run r kind l j ≡ pieces_before_run r kind k (length (runs_of r kind)) ++ AList k ∷ more)
  list_comes k l j less same =
      let p : ℕ = part_of r kind l in
      let front : List ℕ = lists_before r kind p k in
      let behind : List ℕ = filter (in_part r kind p) (range_with_len (k + 1) (l - k - 1)) in
      let runs : List ℕ = runs_before r kind k (length (runs_of r kind)) in
      let own : List Piece = runs_as_pieces (runs_before r kind l j) [] in
      let tail : List Piece = AList k ∷ pieces_of r kind behind in
      let cut : lists_before r kind p l ≡ front ++ k ∷ behind = kept_cut (in_part r kind p) l k less (eq-eqb (part_of r kind k) p same) in
      let whole : pieces_before r kind l ≡ (pieces_of r kind front ++ runs_as_pieces runs []) ++ tail =
      ap (pieces_of r kind) cut
      ∙ lists_append r kind front (k ∷ behind)
      ∙ ap (λ (z : List ℕ). pieces_of r kind front ++ runs_as_pieces z tail) (runs_all r kind k)
      ∙ ap (λ (z : List Piece). pieces_of r kind front ++ z) (runs_split runs tail)
      ∙ sym (append_assoc (pieces_of r kind front) (runs_as_pieces runs []) tail) in (
        pieces_of r kind behind ++ own,
        ap (λ (z : List Piece). z ++ own) whole
            ∙ append_assoc (pieces_of r kind front ++ runs_as_pieces runs []) tail own
            ∙ ap (λ (z : ℕ). (pieces_of r kind (lists_before r kind z k) ++ runs_as_pieces runs []) ++ (tail ++ own)) (sym same),
      )

  -- and so with a run, and what is behind it of its list
  pub run_comes : (k i j : ℕ) → i < j → (view_at (runs_of r kind) i).list ≡ (list_at (lists_of r kind) k).at →
      (more : List Piece) × (pieces_before_run r kind k j ≡ pieces_before_run r kind k i ++ ARun i ∷ more)
  run_comes k i j less with =
      let front : List ℕ = runs_before r kind k i in
      let behind : List ℕ = filter (of_list r kind k) (range_with_len (i + 1) (j - i - 1)) in
      let tail : List Piece = ARun i ∷ runs_as_pieces behind [] in
      let cut : runs_before r kind k j ≡ front ++ i ∷ behind = kept_cut (of_list r kind k) j i less (eq-eqb (view_at (runs_of r kind) i).list (list_at (lists_of r kind) k).at with) in (
        runs_as_pieces behind [],
        ap (λ (z : List ℕ). pieces_before r kind k ++ runs_as_pieces z []) cut
            ∙ ap (λ (z : List Piece). pieces_before r kind k ++ z) (runs_append front (i ∷ behind) [] ∙ runs_split front tail)
            ∙ sym (append_assoc (pieces_before r kind k) (runs_as_pieces front []) tail),
      )

-- WHERE WHAT IS BEFORE ENDS

module _ (kind : ListKind) (r s : Reading) where
  pub ends_from : (pieces : List Piece) (start end : ℕ) → EndsAt kind r s pieces start end → start ≤ end
  ends_from [] start end e = omega (arith, e)
  ends_from (x ∷ pieces) start end (len, has, rest) = let more : start + len ≤ end = ends_from pieces (start + len) end rest in omega (arith, more)

  -- things that end at a place, cut at one of them
  pub record IsCutAt (before : List Piece) (piece : Piece) (start end : ℕ) : Type 0 where
    pub due : ℕ
    pub len : ℕ
    pub ends : EndsAt kind r s before start due
    pub has : PieceHasLength kind r s piece len
    pub order : due + len ≤ end

  pub ends_cut : (before : List Piece) (piece : Piece) (more : List Piece) (start end : ℕ) → EndsAt kind r s (before ++ piece ∷ more) start end →
      IsCutAt before piece start end
  ends_cut [] piece more start end (len, has, rest) = record { due = start; len = len; ends = refl; has = has; order = ends_from more (start + len) end rest }
  ends_cut (x ∷ before) piece more start end (size, is, rest) =
      let cut = ends_cut before piece more (start + size) end rest in
      record { due = cut.due; len = cut.len; ends = (size, is, cut.ends); has = cut.has; order = cut.order }

  -- where each of some things has a length, they end somewhere
  pub no_end : ((piece : Piece) → IsKnown r kind piece → ((len : ℕ) → PieceHasLength kind r s piece len → ⊥) → ⊥) → (pieces : List Piece) (start : ℕ) →
      ((piece : Piece) → IsAmong piece pieces → IsKnown r kind piece) → ((end : ℕ) → EndsAt kind r s pieces start end → ⊥) → ⊥
  no_end long [] start known never = never start refl
  no_end long (x ∷ pieces) start known never =
      long x (known x (inl refl)) (λ len has. no_end long pieces (start + len) (λ piece there. known piece (inr there)) (λ end ends. never end (len, has, ends)))
