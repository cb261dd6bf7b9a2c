-- Lists that are written one after the other, and parts of them that are copied.
use Rattle.std.proofs.Common.{◌≡◌, ◌≤◌, ◌<◌, ◌+◌, ◌-◌, ◌∙◌, ℕ, zero, suc, List, [], ◌∷◌, ◌++◌, length, get_or, map, take, drop, sym, ap, refl, subst, arith}
use Rattle.std.specs.Prelude.{flat_map}
use Rattle.std.specs.List.{AllZip, sum_by}
use Rattle.std.proofs.lemmas.Grind.{flat_map-append}
use Rattle.std.proofs.lemmas.Slice.Zip.{AllZip-long}
use Rattle.std.proofs.lemmas.List.{append_assoc, append-nil, length-map, get_or-map, take_all, take_more}
use Rattle.std.proofs.lemmas.List.Concat.{length-flat_map, get_or-flat_map}
use Rattle.std.proofs.lemmas.List.Sums.{sum_by-cons}
use Rattle.list_model.specs.declared.contribution.Contribution.{Contribution}
use Rattle.list_model.specs.declared.entry.ListKind.{ListKind}
use Rattle.list_least.specs.Plans.{entries_bytes}
use Rattle.list_write.specs.declared.pieces.ListExtent.{ListExtent}
use Rattle.list_write.specs.declared.pieces.RunExtent.{RunExtent}
use Rattle.list_write.specs.Written.{Run, ToWrite, IsSized, WrittenRun, Piece, IsWrittenRun, IsPieceOf, run_size, own_size, full_size, list_at, run_at, runs_before, CanBeWritten}
use Rattle.list_write.specs.inside.Pieces.{run_extent, list_extent, run_extents, runs_bytes, whole_bytes, pieces_in, ArePiecesHeld}
use Rattle.list_write.specs.inside.Places.{run_sizes, views_size, extent_at, run_extent_at, IsExtentOf, IsRunExtentOf, AreExtentsOf, CanBePlaced}
use Rattle.list_write.specs.inside.Puts.{StandAt, AreRunsPut, WholeStands, AreListsPut, AreReady}
use Rattle.list_write.proofs.ApartLaws.{with_size}
use Rattle.list_write.proofs.Entries.{picked_bytes, has_picked}
use Rattle.list_write.proofs.HeldPieces.{held_are}
use Rattle.list_write.proofs.Placing.{no_extent}
use Rattle.list_write.proofs.Putting.{runs_put_none, runs_put_more, lists_none, lists_more}
use Rattle.list_write.proofs.Ready.{parts_rise, are_known, sized, whole_size}
use Rattle.list_write.proofs.Runs.{no_list, no_run, pairs_size, run_within}
use Rattle.list_write.proofs.Standing.{stand_copied}

-- ---- place by place

zip_at : {A B : Type 0} (R : A → B → Type 0) (xs : List A) (ys : List B) (i : ℕ) (d : A) (e : B) → AllZip R xs ys → i < length xs → R (get_or xs i d) (get_or ys i e)
zip_at R [] ys i d e zip inside = absurd (omega arith)
zip_at R (x ∷ xs) [] i d e zip inside = absurd zip
zip_at R (x ∷ xs) (y ∷ ys) zero d e (here, zip) inside = here
zip_at R (x ∷ xs) (y ∷ ys) (suc i) d e (here, zip) inside = zip_at R xs ys i d e zip (omega arith)

zip_sums : {A B : Type 0} (R : A → B → Type 0) (f : A → ℕ) (g : B → ℕ) → ((x : A) (y : B) → R x y → g y ≡ f x) → (xs : List A) (ys : List B) (k : ℕ) → AllZip R xs ys → sum_by g (take k ys) ≡ sum_by f (take k xs)
zip_sums R f g same xs ys zero zip = refl
zip_sums R f g same [] [] (suc k) zip = refl
zip_sums R f g same [] (y ∷ ys) (suc k) zip = absurd zip
zip_sums R f g same (x ∷ xs) [] (suc k) zip = absurd zip
zip_sums R f g same (x ∷ xs) (y ∷ ys) (suc k) (here, zip) =
    let own = same x y here in
    let one = sum_by-cons f x (take k xs) in
    let other = sum_by-cons g y (take k ys) in
    omega (arith, own, one, other, zip_sums R f g same xs ys k zip)

abbrev no_written : WrittenRun
no_written = record { at = 0; bytes = [] }

abbrev no_piece : Piece
no_piece = record { part = 0; at = 0; bytes = []; runs = [] }

module _ (kind : ListKind) (lists : List ToWrite) (pieces : List Piece) (zip : AllZip (IsPieceOf kind) lists pieces) (are_sized : (k : ℕ) → k < length lists → IsSized kind (list_at lists k)) where
  abbrev piece_at : ℕ → Piece
  piece_at k = get_or pieces k no_piece

  is_piece : (k : ℕ) → k < length lists → IsPieceOf kind (list_at lists k) (piece_at k)
  is_piece k inside = zip_at (IsPieceOf kind) lists pieces k no_list no_piece zip inside

  count : length pieces ≡ length lists
  count = AllZip-long (IsPieceOf kind) lists pieces zip

  -- ---- their extents

  piece_size : (k : ℕ) → k < length lists → length (piece_at k).bytes ≡ own_size (list_at lists k)
  piece_size k inside =
      let list = list_at lists k in
      let own = are_sized k inside in
      let put = (is_piece k inside).own own.entries own.picked in
      let bytes = with_size kind own.entries list.expressions (piece_at k).bytes put.0 own.carried put.1 in
      let size : list.size ≡ entries_bytes own.entries + 1 = own.bytes in
      omega (arith, bytes, size)

  runs_count : (k : ℕ) → k < length lists → length (piece_at k).runs ≡ length (list_at lists k).views
  runs_count k inside = AllZip-long IsWrittenRun (list_at lists k).views (piece_at k).runs (is_piece k inside).runs

  offsets : (k : ℕ) → length (flat_map run_extents (take k pieces)) ≡ runs_before lists k
  offsets k =
      length-flat_map run_extents (take k pieces)
      ∙ zip_sums (IsPieceOf kind) (λ (list : ToWrite). length list.views) (λ (piece : Piece). length (run_extents piece)) (λ list piece is. length-map piece.runs run_extent ∙ AllZip-long IsWrittenRun list.views piece.runs is.runs) lists pieces k zip

  extent_here : (k : ℕ) → k < length lists → IsExtentOf (list_at lists k) (extent_at (map list_extent pieces) k)
  extent_here k inside =
      let is = is_piece k inside in
      let many = count in
      subst (IsExtentOf (list_at lists k)) (sym (get_or-map list_extent pieces k no_piece (extent_at [] 0) (omega (arith, inside, many))))
      (record { part = is.part; from = is.from; runs = runs_count k inside; size = piece_size k inside })

  run_here : (k i : ℕ) → k < length lists → i < length (list_at lists k).views → IsRunExtentOf (run_at (list_at lists k).views i) (run_extent_at (flat_map run_extents pieces) (runs_before lists k + i))
  run_here k i inside less =
      let piece = piece_at k in
      let many = count in
      let long = runs_count k inside in
      let own : i < length piece.runs = omega (arith, less, long) in
      let held : length (run_extents piece) ≡ length piece.runs = length-map piece.runs run_extent in
      let written = get_or piece.runs i no_written in
      let is = zip_at IsWrittenRun (list_at lists k).views piece.runs i no_run no_written (is_piece k inside).runs less in
      let found : run_extent_at (flat_map run_extents pieces) (length (flat_map run_extents (take k pieces)) + i) ≡ run_extent_at (run_extents piece) i = get_or-flat_map run_extents pieces k i no_piece no_extent (omega (arith, inside, many)) (omega (arith, own, held)) in
      let here : run_extent_at (run_extents piece) i ≡ run_extent written = get_or-map run_extent piece.runs i no_written no_extent own in
      let place : runs_before lists k + i ≡ length (flat_map run_extents (take k pieces)) + i = ap (λ (z : ℕ). z + i) (sym (offsets k)) in
      subst (IsRunExtentOf (run_at (list_at lists k).views i)) (sym (ap (run_extent_at (flat_map run_extents pieces)) place ∙ found ∙ here))
      (record { from = is.from; size = pairs_size (run_at (list_at lists k).views i).pairs written.bytes is.shortest })

  pub extents_of : AreExtentsOf lists (map list_extent pieces) (flat_map run_extents pieces)
  extents_of = record {
    count = length-map pieces list_extent ∙ count;
    runs_count = ap (λ (z : List Piece). length (flat_map run_extents z)) (sym (take_all (length lists) pieces (let many = count in omega (arith, many)))) ∙ offsets (length lists);
    each = extent_here;
    each_run = run_here;
  }

  -- ---- their bytes

  runs_put : (runs : List Run) (written : List WrittenRun) → AllZip IsWrittenRun runs written → (old : List ℕ) (n : ℕ) → n ≤ length runs → AreRunsPut runs n old (old ++ runs_bytes (take n written))
  runs_put runs written are old zero less = subst (AreRunsPut runs 0 old) (sym (append-nil old)) (runs_put_none runs old)
  runs_put runs written are old (suc n) less =
      let many = AllZip-long IsWrittenRun runs written are in
      let one = get_or written n no_written in
      let is = zip_at IsWrittenRun runs written n no_run no_written are (omega arith) in
      let next : n + 1 ≡ suc n = omega arith in
      let more : old ++ runs_bytes (take (n + 1) written) ≡ (old ++ runs_bytes (take n written)) ++ one.bytes =
      ap (λ (z : List WrittenRun). old ++ runs_bytes z) (take_more written n no_written (omega (arith, many, less)))
      ∙ ap (λ z. old ++ z) (flat_map-append (λ (run : WrittenRun). run.bytes) (take n written) (one ∷ []) ∙ ap (λ z. runs_bytes (take n written) ++ z) (append-nil one.bytes))
      ∙ sym (append_assoc old (runs_bytes (take n written)) one.bytes) in
      subst (λ (z : ℕ). AreRunsPut runs z old (old ++ runs_bytes (take z written))) next
      (runs_put_more runs n old (old ++ runs_bytes (take n written)) (old ++ runs_bytes (take (n + 1) written)) (omega arith) (runs_put runs written are old n (omega arith)) (one.bytes, is.shortest, more))

  all_runs_put : (k : ℕ) → k < length lists → (old : List ℕ) → AreRunsPut (list_at lists k).views (length (list_at lists k).views) old (old ++ runs_bytes (piece_at k).runs)
  all_runs_put k inside old =
      let long = runs_count k inside in
      subst (λ (z : List WrittenRun). AreRunsPut (list_at lists k).views (length (list_at lists k).views) old (old ++ runs_bytes z)) (take_all (length (list_at lists k).views) (piece_at k).runs (omega (arith, long)))
      (runs_put (list_at lists k).views (piece_at k).runs (is_piece k inside).runs old (length (list_at lists k).views) (omega arith))

  lists_put : (n : ℕ) → n ≤ length lists → AreListsPut kind lists n [] (flat_map whole_bytes (take n pieces))
  lists_put zero less = lists_none kind lists []
  lists_put (suc n) less =
      let many = count in
      let inside : n < length lists = omega arith in
      let piece = piece_at n in
      let mid : List ℕ = flat_map whole_bytes (take n pieces) in
      let behind : List ℕ = mid ++ runs_bytes piece.runs in
      let next : n + 1 ≡ suc n = omega arith in
      let more : flat_map whole_bytes (take (n + 1) pieces) ≡ behind ++ piece.bytes =
      ap (flat_map whole_bytes) (take_more pieces n no_piece (omega (arith, many, inside)))
      ∙ flat_map-append whole_bytes (take n pieces) (piece ∷ []) ∙ ap (λ z. mid ++ z) (append-nil (whole_bytes piece))
      ∙ sym (append_assoc mid (runs_bytes piece.runs) piece.bytes) in
      subst (λ (z : ℕ). AreListsPut kind lists z [] (flat_map whole_bytes (take z pieces))) next
      (lists_more kind lists n [] mid behind (flat_map whole_bytes (take (n + 1) pieces)) inside (lists_put n (omega arith)) (are_sized n inside) (all_runs_put n inside mid) (λ entries picked. (piece.bytes, (is_piece n inside).own entries picked, more)))

  pub all_put : AreListsPut kind lists (length lists) [] (flat_map whole_bytes pieces)
  all_put =
      let many = count in
      subst (λ (z : List Piece). AreListsPut kind lists (length lists) [] (flat_map whole_bytes z)) (take_all (length lists) pieces (omega (arith, many))) (lists_put (length lists) (omega arith))

-- ---- what can be written

-- what is held of lists that can be written
pub are_ready : (kind : ListKind) (section : List ℕ) (parts : List Contribution) (lists : List ToWrite) (extents : List ListExtent) (runs : List RunExtent) (bytes : List ℕ) → (held : ArePiecesHeld extents runs bytes) → AllZip (IsPieceOf kind) lists held.pieces → CanBeWritten kind section parts lists → AreReady kind section parts lists extents runs bytes
are_ready kind section parts lists extents runs bytes held zip can =
    let size = sized kind section parts lists can in
    record {
      can = can;
      extents_are =
          subst (λ (z : List ListExtent). AreExtentsOf lists z runs) (sym held.lists_are)
          (subst (AreExtentsOf lists (map list_extent held.pieces)) (sym held.runs_are) (extents_of kind lists held.pieces zip size));
      put = subst (AreListsPut kind lists (length lists) []) (sym held.bytes_are) (all_put kind lists held.pieces zip size);
    }

-- the same of lists that are seen as their pieces
pub ready_for : (kind : ListKind) (section : List ℕ) (parts : List Contribution) (lists : List ToWrite) (extents : List ListExtent) (runs : List RunExtent) (bytes : List ℕ) → ArePiecesHeld extents runs bytes → (pieces : List Piece) → pieces_in extents runs bytes ≡ pieces → AllZip (IsPieceOf kind) lists pieces → CanBeWritten kind section parts lists → AreReady kind section parts lists extents runs bytes
ready_for kind section parts lists extents runs bytes held pieces seen zip can =
    are_ready kind section parts lists extents runs bytes held (subst (AllZip (IsPieceOf kind) lists) (sym seen ∙ held_are extents runs bytes held) zip) can

pub can_be_placed : (kind : ListKind) (section : List ℕ) (parts : List Contribution) (lists : List ToWrite) (extents : List ListExtent) (runs : List RunExtent) (bytes : List ℕ) → AreReady kind section parts lists extents runs bytes → (some : List ListExtent) (others : List RunExtent) → some ≡ extents → others ≡ runs → CanBePlaced parts lists some others
can_be_placed kind section parts lists extents runs bytes ready some others some_are others_are = record {
  extents_are = subst (λ (z : List ListExtent). AreExtentsOf lists z others) (sym some_are) (subst (AreExtentsOf lists extents) (sym others_are) ready.extents_are);
  rise = parts_rise kind section parts lists ready.can;
  known = are_known kind section parts lists ready.can;
  room = (let few = whole_size kind section parts lists ready.can in omega (arith, few));
}

-- ---- a part of the bytes

-- a list that stands in it with its view pairs stands where it is copied
pub whole_copied : (kind : ListKind) (list : ToWrite) (at from to : ℕ) (all old new : List ℕ) → IsSized kind list → WholeStands kind list at all → from ≤ at → at + full_size list ≤ to → new ≡ old ++ take (to - from) (drop from all) → WholeStands kind list (length old + (at - from)) new
whole_copied kind list at from to all old new size stands after before e = record {
  runs = λ i inside.
      let there = stands.runs i inside in
      let long : length there.0 ≡ run_size (run_at list.views i) = pairs_size (run_at list.views i).pairs there.0 there.1 in
      let within = run_within list.views i inside in
      let place : length old + (at + run_sizes list.views i - from) ≡ length old + (at - from) + run_sizes list.views i = omega (arith, after) in
      (there.0, there.1, subst (λ (z : ℕ). StandAt z there.0 new) place (stand_copied (at + run_sizes list.views i) there.0 all old new from to there.2 (omega (arith, after)) (omega (arith, long, within, before)) e));
  own = λ entries picked.
      let there = stands.own entries picked in
      let same = picked_bytes kind list.picks size.entries entries size.picked picked in
      let carried = has_picked kind list.picks size.entries entries list.expressions size.picked picked size.carried in
      let long = with_size kind entries list.expressions there.0 there.1 carried there.2 in
      let own : list.size ≡ entries_bytes size.entries + 1 = size.bytes in
      let place : length old + (at + views_size list - from) ≡ length old + (at - from) + views_size list = omega (arith, after) in
      (there.0, there.1, there.2, subst (λ (z : ℕ). StandAt z there.0 new) place (stand_copied (at + views_size list) there.0 all old new from to there.3 (omega (arith, after)) (omega (arith, same, long, own, before)) e));
}
