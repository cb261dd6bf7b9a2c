-- In a file that is written anew each old thing is due where the written one stands: what is due goes the way of what fills a contribution.
use Rattle.std.proofs.Common.{◌≡◌, ◌<◌, ◌+◌, ◌∙◌, ◌⊎◌, inl, inr, ℕ, List, [], ◌∷◌, length, sym, subst, refl, arith}
use Rattle.std.specs.Prelude.{slice_index}
use Rattle.list_model.specs.declared.entry.ListKind.{ListKind}
use Rattle.list_model.specs.declared.entry.ListKind.TheVariants.{Ranges, Locations}
use Rattle.list_model.specs.Contributions.{lists_at}
use Rattle.value_links.specs.Reading.{ViewRead, Reading, of_kind, lists_of, part_at, list_at, view_at}
use Rattle.written_files.specs.TidyLists.{RunsStand, views_with}
use Rattle.tidy_lists.specs.Followers.{HasLength, RunHasLength}
use Rattle.tidy_lists.specs.Due.{Piece, PieceHasLength, IsDueAmong, IsDue, lists_in, runs_with, runs_as_pieces, pieces_of}
use Rattle.tidy_lists.specs.Due.Piece.{ARun, AList}
use Rattle.tidy_lists.proofs.OneLength.{piece_length}
use Rattle.tidy_lists.proofs.WrittenBytes.{no_bytes, list_has, run_has}
use Rattle.tidy_lists.proofs.WrittenRuns.{IsWalk}
use Rattle.tidy_lists.proofs.WrittenNumbers.{AreKept, list_kept, run_kept}
use Rattle.tidy_lists.proofs.WrittenPieces.{RunsAt, ListsAt, AreRunsIn, AreListsIn, IsBare, lists_same, filled_numbered, lists_there, runs_numbered, runs_there, runs_walk}

-- a place is the one at which the written thing stands that an old one is
abbrev pub IsThere : ListKind → Reading → List ℕ → Piece → ℕ → Type 0
IsThere kind s numbers (AList k) at = at ≡ (list_at (lists_of s kind) k).at
IsThere kind s numbers (ARun j) at = at ≡ (view_at s.views (slice_index numbers j)).at

module _ (file written : List ℕ) (r s : Reading) (are : AreKept file written r s) (kind : ListKind) where
  abbrev numbers : List ℕ
  numbers = are.views.numbers

  abbrev Has : Piece → ℕ → Type 0
  Has piece len = PieceHasLength kind r s piece len

  -- LENGTHS

  -- the length by which things are due is that of the bytes that stand there
  list_length : (k len size : ℕ) → Has (AList k) len → HasLength kind s (list_at (lists_of s kind) k) size → len ≡ size
  list_length k len size (m, first, has) there =
      let same : m ≡ k = list_kept file written r s are kind k m first.follows in
      let other : HasLength kind s (list_at (lists_of s kind) m) size =
      subst (λ (z : ℕ). HasLength kind s (list_at (lists_of s kind) z) size) (sym same) there in
      piece_length written s are.again kind r (AList k) len size (m, first, has) (m, first, other)

  -- and so of runs
  run_length : (j len size : ℕ) → Has (ARun j) len → RunHasLength s (view_at s.views (slice_index numbers j)) size → len ≡ size
  run_length j len size (n, first, has) there =
      let same : n ≡ slice_index numbers j = run_kept file written r s are j n first.follows in
      let other : RunHasLength s (view_at s.views n) size = subst (λ (z : ℕ). RunHasLength s (view_at s.views z) size) (sym same) there in
      piece_length written s are.again kind r (ARun j) len size (n, first, has) (n, first, other)

  module _ (p : ℕ) (piece : Piece) (at : ℕ) where
    abbrev Due : List Piece → ℕ → Type 0
    Due pieces start = IsDueAmong kind r s pieces start piece at

    abbrev Here : Type 0
    Here = IsThere kind s numbers piece at

    -- along runs and what follows them: the thing is a run that is due where it stands, or it is due in what follows, behind the runs
    runs_due : (after : List Piece) (end : ℕ) (js ns : List ℕ) (start : ℕ) → IsWalk (slice_index numbers) (IsBare s numbers) js ns →
        RunsAt s p ns start end → AreRunsIn s p ns → Due (runs_as_pieces js after) start → Here ⊎ Due after end
    runs_due after end [] ns start none runs known due =
        let over : start ≡ end = subst (λ (z : List ℕ). RunsAt s p z start end) none runs in
        inr (subst (Due after) over due)
    runs_due after end (j ∷ js) ns start (others, is, more) runs known due =
        let n : ℕ = slice_index numbers j in
        let first : RunsAt s p (n ∷ others) start end = subst (λ (z : List ℕ). RunsAt s p z start end) is runs in
        let known_too : AreRunsIn s p (n ∷ others) = subst (AreRunsIn s p) is known in
        let (here, (bytes, rest, pairs, stands, following)) = first in
        let there : RunHasLength s (view_at s.views n) (length bytes) = run_has s p n start bytes rest (known_too n (inl refl)).1 here pairs stands in
        elim due [
          | inl (e, now) ↦ inl (subst (λ (z : Piece). IsThere kind s numbers z at) (sym e) (now ∙ sym here))
          | inr (len, has, later) ↦
              let size : len ≡ length bytes = run_length j len (length bytes) has there in
              elim more [
                | inl walk ↦
                    runs_due after end js others (start + length bytes) walk following (λ m one. known_too m (inr one))
                    (subst (λ (z : ℕ). Due (runs_as_pieces js after) (start + z)) size later)
                | inr (bare, walk) ↦
                    let none : length bytes ≡ 0 = no_bytes (view_at s.views n).pairs bytes pairs bare in
                    let still : start + len ≡ start = omega (arith, size, none) in
                    runs_due after end js ns start walk runs known (subst (Due (runs_as_pieces js after)) still later)
              ]
        ]

-- WHAT GOES WITH A LIST

module _ (file written : List ℕ) (r s : Reading) (are : AreKept file written r s) (p : ℕ) (piece : Piece) (at : ℕ) where
  -- along the runs that go with a list, of which ranges have none, and what follows them
  runs_pass : (kind : ListKind) (after : List Piece) (start end k : ℕ) → k < length (lists_of s kind) → (list_at (lists_of s kind) k).part ≡ p →
      RunsStand (of_kind s.links kind).section (part_at (of_kind s.links kind) p) (views_with kind s.views (list_at (lists_of s kind) k)) start end →
      IsDueAmong kind r s (runs_as_pieces (runs_with r kind k) after) start piece at →
      IsThere kind s are.views.numbers piece at ⊎ IsDueAmong kind r s after end piece at
  runs_pass Ranges after start end k inside part over due = inr (subst (λ (z : ℕ). IsDueAmong Ranges r s after z piece at) over due)
  runs_pass Locations after start end k inside part runs due =
      let known : k < length r.location_lists = subst (λ (z : ℕ). k < z) (are.lists Locations).lists inside in
      let there : RunsAt s p (runs_with s Locations k) start end =
      subst (λ (z : List ViewRead). RunsStand s.links.locations.section (part_at s.links.locations p) z start end) (runs_numbered s k) runs in
      let walk = runs_walk file written r s are k known in
      let js : List ℕ = runs_with r Locations k in
      runs_due file written r s are Locations p piece at after end js (runs_with s Locations k) start walk there (runs_there s k p inside part) due

  module _ (kind : ListKind) where
    -- along lists, each behind its runs: the thing is due where the written one stands
    lists_due : (ks : List ℕ) (start : ℕ) → ListsAt kind s p ks start → AreListsIn kind s p ks →
        IsDueAmong kind r s (pieces_of r kind ks) start piece at → IsThere kind s are.views.numbers piece at
    lists_due [] start over known due = absurd due
    lists_due (k ∷ ks) start (runs, (bytes, rest, whole, stands, more)) known due =
        let here : ℕ = (list_at (lists_of s kind) k).at in
        let (inside, part) = known k (inl refl) in
        let has_bytes : HasLength kind s (list_at (lists_of s kind) k) (length bytes) = list_has s p kind k bytes rest part whole stands in
        elim (runs_pass kind (AList k ∷ pieces_of r kind ks) start here k inside part runs due) [
          | inl there ↦ there
          | inr (inl (e, now)) ↦ subst (λ (z : Piece). IsThere kind s are.views.numbers z at) (sym e) now
          | inr (inr (len, has, later)) ↦
              let size : len ≡ length bytes = list_length file written r s are kind k len (length bytes) has has_bytes in
              let behind = subst (λ (z : ℕ). IsDueAmong kind r s (pieces_of r kind ks) (here + z) piece at) size later in
              lists_due ks (here + length bytes) more (λ i one. known i (inr one)) behind
        ]

    -- what is due in a contribution is due where the written thing stands
    pub due_there : p < length (of_kind s.links kind).parts → IsDue kind r s p piece at → IsThere kind s are.views.numbers piece at
    due_there inside due =
        let start : ℕ = lists_at (part_at (of_kind s.links kind) p) in
        let now =
        subst (λ (z : List ℕ). IsDueAmong kind r s (pieces_of r kind z) start piece at) (sym (lists_same kind r s (are.lists kind) p)) due in
        lists_due (lists_in s kind p) start (filled_numbered kind s p ((are.lists kind).filled p inside)) (lists_there kind s p) now
