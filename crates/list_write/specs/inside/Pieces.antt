-- How lists are held that are written.
-- Inner functions and proofs alone need what stands here.
use Rattle.std.specs.Prelude.{◌≡◌, ℕ, List, [], ◌∷◌, ◌++◌, length, map, flat_map, take, drop}
use Rattle.std.specs.List.{AllZip, sum_by}
use Rattle.list_model.specs.declared.entry.ListKind.{ListKind}
use Rattle.list_write.specs.declared.pieces.ListExtent.{ListExtent}
use Rattle.list_write.specs.declared.pieces.RunExtent.{RunExtent}
use Rattle.list_write.specs.Written.{Run, ToWrite, WrittenRun, Piece, IsWrittenRun, IsPieceOf}

-- how much there is of a run, and of a list
abbrev pub run_extent : WrittenRun → RunExtent
run_extent run = record { at = run.at; size = length run.bytes }

abbrev pub list_extent : Piece → ListExtent
list_extent piece = record { part = piece.part; at = piece.at; runs = length piece.runs; size = length piece.bytes }

abbrev pub run_extents : Piece → List RunExtent
run_extents piece = map run_extent piece.runs

-- the bytes of a list behind those of its view pairs
abbrev pub runs_bytes : List WrittenRun → List ℕ
runs_bytes runs = flat_map (λ (run : WrittenRun). run.bytes) runs

abbrev pub whole_bytes : Piece → List ℕ
whole_bytes piece = runs_bytes piece.runs ++ piece.bytes

-- the runs of these extents, which stand one after the other at the front of the bytes
abbrev pub runs_in : List RunExtent → List ℕ → List WrittenRun
runs_in [] bytes = []
runs_in (run ∷ runs) bytes = record { at = run.at; bytes = take run.size bytes } ∷ runs_in runs (drop run.size bytes)

-- the bytes behind these runs
abbrev pub behind_runs : List RunExtent → List ℕ → List ℕ
behind_runs runs bytes = drop (sum_by (λ (run : RunExtent). run.size) runs) bytes

-- the lists of these extents, each behind its runs
abbrev pub pieces_in : List ListExtent → List RunExtent → List ℕ → List Piece
pieces_in [] runs bytes = []
pieces_in (list ∷ lists) runs bytes =
    record { part = list.part; at = list.at; bytes = take list.size (behind_runs (take list.runs runs) bytes); runs = runs_in (take list.runs runs) bytes }
    ∷ pieces_in lists (drop list.runs runs) (drop list.size (behind_runs (take list.runs runs) bytes))

-- the extents and the bytes are those of lists that are written one after the other, and there is nothing else
pub record ArePiecesHeld (lists : List ListExtent) (runs : List RunExtent) (bytes : List ℕ) : Type 0 where
  pub pieces : List Piece
  pub lists_are : lists ≡ map list_extent pieces
  pub runs_are : runs ≡ flat_map run_extents pieces
  pub bytes_are : bytes ≡ flat_map whole_bytes pieces

-- runs of view pairs are put behind other bytes, and their extents behind others
pub record AreRunsHeld (runs : List Run) (old new : List ℕ) (old_extents new_extents : List RunExtent) : Type 0 where
  pub written : List WrittenRun
  pub are : AllZip IsWrittenRun runs written
  pub bytes : new ≡ old ++ runs_bytes written
  pub extents : new_extents ≡ old_extents ++ map run_extent written

-- a list is put behind others, and so are the extents of its view pairs and its own
pub record IsPieceHeld (kind : ListKind) (list : ToWrite) (old new : List ℕ) (old_lists new_lists : List ListExtent) (old_runs new_runs : List RunExtent) : Type 0 where
  pub piece : Piece
  pub is : IsPieceOf kind list piece
  pub bytes : new ≡ old ++ whole_bytes piece
  pub lists : new_lists ≡ old_lists ++ list_extent piece ∷ []
  pub runs : new_runs ≡ old_runs ++ run_extents piece
