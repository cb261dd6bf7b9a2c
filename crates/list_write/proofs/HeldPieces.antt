-- Lists that are written, as they are held.
use Rattle.std.proofs.Common.{◌≡◌, ◌∙◌, ℕ, List, [], ◌∷◌, ◌++◌, length, map, take, drop, sym, ap, refl, arith}
use Rattle.std.specs.Prelude.{flat_map}
use Rattle.std.specs.List.{AllZip, sum_by}
use Rattle.std.proofs.lemmas.Grind.{flat_map-append}
use Rattle.std.proofs.lemmas.List.{append_assoc, append-nil, length-append, length-map, map-append, take_at, drop_at}
use Rattle.std.proofs.lemmas.List.Sums.{sum_by-cons}
use Rattle.list_model.specs.declared.entry.ListKind.{ListKind}
use Rattle.list_write.specs.declared.pieces.ListExtent.{ListExtent}
use Rattle.list_write.specs.declared.pieces.RunExtent.{RunExtent}
use Rattle.list_write.specs.Written.{Run, ToWrite, WrittenRun, Piece, IsWrittenRun}
use Rattle.list_write.specs.inside.Pieces.{run_extent, list_extent, run_extents, runs_bytes, whole_bytes, runs_in, behind_runs, pieces_in, ArePiecesHeld, AreRunsHeld, IsPieceHeld}

-- ---- what is held is found again

runs_back : (runs : List WrittenRun) (rest : List ℕ) → runs_in (map run_extent runs) (runs_bytes runs ++ rest) ≡ runs
runs_back [] rest = refl
runs_back (run ∷ runs) rest =
    let apart = append_assoc run.bytes (runs_bytes runs) rest in
    let own : take (length run.bytes) ((run.bytes ++ runs_bytes runs) ++ rest) ≡ run.bytes = ap (take (length run.bytes)) apart ∙ take_at run.bytes (runs_bytes runs ++ rest) (length run.bytes) refl in
    let left : drop (length run.bytes) ((run.bytes ++ runs_bytes runs) ++ rest) ≡ runs_bytes runs ++ rest = ap (drop (length run.bytes)) apart ∙ drop_at run.bytes (runs_bytes runs ++ rest) (length run.bytes) refl in
    ap (λ (z : List ℕ). record { at = run.at; bytes = z } ∷ runs_in (map run_extent runs) (drop (length run.bytes) ((run.bytes ++ runs_bytes runs) ++ rest))) own
    ∙ ap (λ (z : List WrittenRun). run ∷ z) (ap (runs_in (map run_extent runs)) left ∙ runs_back runs rest)

sizes_back : (runs : List WrittenRun) → sum_by (λ (run : RunExtent). run.size) (map run_extent runs) ≡ length (runs_bytes runs)
sizes_back [] = refl
sizes_back (run ∷ runs) =
    let sum = sum_by-cons (λ (extent : RunExtent). extent.size) (run_extent run) (map run_extent runs) in
    let size = length-append run.bytes (runs_bytes runs) in
    omega (arith, sum, size, sizes_back runs)

behind_back : (runs : List WrittenRun) (rest : List ℕ) → behind_runs (map run_extent runs) (runs_bytes runs ++ rest) ≡ rest
behind_back runs rest = ap (λ (z : ℕ). drop z (runs_bytes runs ++ rest)) (sizes_back runs) ∙ drop_at (runs_bytes runs) rest (length (runs_bytes runs)) refl

pub pieces_back : (pieces : List Piece) → pieces_in (map list_extent pieces) (flat_map run_extents pieces) (flat_map whole_bytes pieces) ≡ pieces
pieces_back [] = refl
pieces_back (piece ∷ pieces) =
    let runs : List RunExtent = run_extents piece ++ flat_map run_extents pieces in
    let rest : List ℕ = piece.bytes ++ flat_map whole_bytes pieces in
    let apart : whole_bytes piece ++ flat_map whole_bytes pieces ≡ runs_bytes piece.runs ++ rest = append_assoc (runs_bytes piece.runs) piece.bytes (flat_map whole_bytes pieces) in
    let count = length-map piece.runs run_extent in
    let own : take (length piece.runs) runs ≡ run_extents piece = take_at (run_extents piece) (flat_map run_extents pieces) (length piece.runs) count in
    let others : drop (length piece.runs) runs ≡ flat_map run_extents pieces = drop_at (run_extents piece) (flat_map run_extents pieces) (length piece.runs) count in
    let read : List RunExtent → List RunExtent → List ℕ → List Piece = λ (mine : List RunExtent) (more : List RunExtent) (bytes : List ℕ).
    record { part = piece.part; at = piece.at; bytes = take (length piece.bytes) (behind_runs mine bytes); runs = runs_in mine bytes } ∷ pieces_in (map list_extent pieces) more (drop (length piece.bytes) (behind_runs mine bytes)) in
    let found : List ℕ → List Piece = λ (left : List ℕ). record { part = piece.part; at = piece.at; bytes = take (length piece.bytes) left; runs = piece.runs } ∷ pieces_in (map list_extent pieces) (flat_map run_extents pieces) (drop (length piece.bytes) left) in
    ap (λ (z : List ℕ). read (take (length piece.runs) runs) (drop (length piece.runs) runs) z) apart
    ∙ ap (λ (z : List RunExtent). read z (drop (length piece.runs) runs) (runs_bytes piece.runs ++ rest)) own
    ∙ ap (λ (z : List RunExtent). read (run_extents piece) z (runs_bytes piece.runs ++ rest)) others
    ∙ ap (λ (z : List WrittenRun). record { part = piece.part; at = piece.at; bytes = take (length piece.bytes) (behind_runs (run_extents piece) (runs_bytes piece.runs ++ rest)); runs = z } ∷ pieces_in (map list_extent pieces) (flat_map run_extents pieces) (drop (length piece.bytes) (behind_runs (run_extents piece) (runs_bytes piece.runs ++ rest)))) (runs_back piece.runs rest)
    ∙ ap found (behind_back piece.runs rest)
    ∙ ap (λ (z : List ℕ). record { part = piece.part; at = piece.at; bytes = z; runs = piece.runs } ∷ pieces_in (map list_extent pieces) (flat_map run_extents pieces) (drop (length piece.bytes) rest)) (take_at piece.bytes (flat_map whole_bytes pieces) (length piece.bytes) refl)
    ∙ ap (λ (z : List Piece). piece ∷ z) (ap (pieces_in (map list_extent pieces) (flat_map run_extents pieces)) (drop_at piece.bytes (flat_map whole_bytes pieces) (length piece.bytes) refl) ∙ pieces_back pieces)

-- so the lists are those that are held
pub held_are : (lists : List ListExtent) (runs : List RunExtent) (bytes : List ℕ) → (held : ArePiecesHeld lists runs bytes) → pieces_in lists runs bytes ≡ held.pieces
held_are lists runs bytes held =
    ap (λ (z : List ListExtent). pieces_in z runs bytes) held.lists_are
    ∙ ap (λ (z : List RunExtent). pieces_in (map list_extent held.pieces) z bytes) held.runs_are
    ∙ ap (pieces_in (map list_extent held.pieces) (flat_map run_extents held.pieces)) held.bytes_are
    ∙ pieces_back held.pieces

-- ---- one more

pub runs_held_none : (old : List ℕ) (extents : List RunExtent) → AreRunsHeld [] old old extents extents
runs_held_none old extents = record { written = []; are = tt; bytes = sym (append-nil old); extents = sym (append-nil extents) }

pub zip_push : {A B : Type 0} (R : A → B → Type 0) (xs : List A) (ys : List B) (x : A) (y : B) → AllZip R xs ys → R x y → AllZip R (xs ++ x ∷ []) (ys ++ y ∷ [])
zip_push R [] [] x y zip here = (here, tt)
zip_push R [] (b ∷ ys) x y zip here = absurd zip
zip_push R (a ∷ xs) [] x y zip here = absurd zip
zip_push R (a ∷ xs) (b ∷ ys) x y (first, zip) here = (first, zip_push R xs ys x y zip here)

bytes_push : (runs : List WrittenRun) (run : WrittenRun) → runs_bytes (runs ++ run ∷ []) ≡ runs_bytes runs ++ run.bytes
bytes_push runs run = flat_map-append (λ (z : WrittenRun). z.bytes) runs (run ∷ []) ∙ ap (λ z. runs_bytes runs ++ z) (append-nil run.bytes)

pub runs_held_more : (runs : List Run) (run : Run) (written : WrittenRun) (old mid new : List ℕ) (old_extents mid_extents new_extents : List RunExtent) → AreRunsHeld runs old mid old_extents mid_extents → IsWrittenRun run written → new ≡ mid ++ written.bytes → new_extents ≡ mid_extents ++ run_extent written ∷ [] → AreRunsHeld (runs ++ run ∷ []) old new old_extents new_extents
runs_held_more runs run written old mid new old_extents mid_extents new_extents so_far is put pushed = record {
  written = so_far.written ++ written ∷ [];
  are = zip_push IsWrittenRun runs so_far.written run written so_far.are is;
  bytes = put ∙ ap (λ z. z ++ written.bytes) so_far.bytes ∙ append_assoc old (runs_bytes so_far.written) written.bytes ∙ ap (λ z. old ++ z) (sym (bytes_push so_far.written written));
  extents =
      pushed ∙ ap (λ (z : List RunExtent). z ++ run_extent written ∷ []) so_far.extents
      ∙ append_assoc old_extents (map run_extent so_far.written) (run_extent written ∷ [])
      ∙ ap (λ (z : List RunExtent). old_extents ++ z) (sym (map-append run_extent so_far.written (written ∷ [])));
}

pub held_none : ArePiecesHeld [] [] []
held_none = record { pieces = []; lists_are = refl; runs_are = refl; bytes_are = refl }

pub held_more : (kind : ListKind) (list : ToWrite) (lists new_lists : List ListExtent) (runs new_runs : List RunExtent) (bytes new : List ℕ) → ArePiecesHeld lists runs bytes → IsPieceHeld kind list bytes new lists new_lists runs new_runs → ArePiecesHeld new_lists new_runs new
held_more kind list lists new_lists runs new_runs bytes new held more = record {
  pieces = held.pieces ++ more.piece ∷ [];
  lists_are = more.lists ∙ ap (λ (z : List ListExtent). z ++ list_extent more.piece ∷ []) held.lists_are ∙ sym (map-append list_extent held.pieces (more.piece ∷ []));
  runs_are =
      more.runs ∙ ap (λ (z : List RunExtent). z ++ run_extents more.piece) held.runs_are
      ∙ ap (λ (z : List RunExtent). flat_map run_extents held.pieces ++ z) (sym (append-nil (run_extents more.piece)))
      ∙ sym (flat_map-append run_extents held.pieces (more.piece ∷ []));
  bytes_are =
      more.bytes ∙ ap (λ z. z ++ whole_bytes more.piece) held.bytes_are
      ∙ ap (λ z. flat_map whole_bytes held.pieces ++ z) (sym (append-nil (whole_bytes more.piece)))
      ∙ sym (flat_map-append whole_bytes held.pieces (more.piece ∷ []));
}

-- the lists are those before, and one more
pub held_pushed : (kind : ListKind) (list : ToWrite) (lists new_lists : List ListExtent) (runs new_runs : List RunExtent) (bytes new : List ℕ) → (held : ArePiecesHeld lists runs bytes) → (more : IsPieceHeld kind list bytes new lists new_lists runs new_runs) → pieces_in new_lists new_runs new ≡ pieces_in lists runs bytes ++ more.piece ∷ []
unfolding held_more
held_pushed kind list lists new_lists runs new_runs bytes new held more =
    held_are new_lists new_runs new (held_more kind list lists new_lists runs new_runs bytes new held more)
    ∙ ap (λ (z : List Piece). z ++ more.piece ∷ []) (sym (held_are lists runs bytes held))
