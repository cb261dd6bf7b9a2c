-- Runs of view pairs as they are held: how many they are, each of them, and one more.
use Rattle.std.proofs.Common.{◌≡◌, ◌≤◌, ◌<◌, ◌+◌, ◌-◌, ℕ, List, [], ◌∷◌, ◌++◌, ◌∙◌, length, zero, suc, get_or, refl, ap, sym, subst, arith}
use Rattle.std.specs.Prelude.{slice_range}
use Rattle.std.specs.List.{All}
use Rattle.std.proofs.lemmas.List.{length-append, length-map, get_or-map, get_or_default}
use Rattle.loc_lists.specs.declared.views.ViewPair.{ViewPair}
use Rattle.list_arena.specs.declared.views.PairRow.{PairRow}
use Rattle.list_arena.specs.declared.views.RunRow.{RunRow}
use Rattle.list_arena.specs.Held.{HeldViews}
use Rattle.list_arena.specs.inside.Words.{word_held, IsWord, GrowsTo}
use Rattle.list_arena.specs.inside.Rows.{begin_of}
use Rattle.list_arena.specs.inside.Views.{pair_held, IsPairRow, runs_from, AreRunsFrom, pairs_held, runs_held, AreRunsHeldWell, pair_ends, IsOneMoreRun}
use Rattle.list_arena.proofs.RowLaws.{all_same, all_weaker, range_at, range_end, range_left, range_length}

-- the run of a row, with these pairs
abbrev run_of : List ℕ → RunRow → List ViewPair → HeldViews
run_of long row pairs = record { list = word_held long row.list; at = word_held long row.at; pairs = pairs }

pub pair_is : (long : List ℕ) (row : PairRow) (pair : ViewPair) → IsWord long row.first × (word_held long row.first ≡ pair.first) → IsWord long row.last × (word_held long row.last ≡ pair.last) → IsPairRow long row × (pair_held long row ≡ pair)
unfolding pair_held
pair_is long row pair (first, first_is) (last, last_is) = (record { first = first; last = last }, rw (first_is, last_is) refl)

-- WHERE MORE NUMBERS ARE HELD WHOLE

pub pair_well : (old new : List ℕ) → GrowsTo old new → (row : PairRow) → IsPairRow old row → IsPairRow new row
pair_well old new grown row well = record { first = grown.words row.first well.first; last = grown.words row.last well.last }

pub pair_same : (old new : List ℕ) → GrowsTo old new → (row : PairRow) → IsPairRow old row → pair_held new row ≡ pair_held old row
unfolding pair_held
pair_same old new grown row well =
    let first = grown.same row.first well.first in
    let last = grown.same row.last well.last in
    cc

pub pairs_well : (old new : List ℕ) → GrowsTo old new → (rows : List PairRow) → All (IsPairRow old) rows → All (IsPairRow new) rows
pairs_well old new grown rows well = all_weaker (IsPairRow old) (IsPairRow new) (pair_well old new grown) rows well

pub pairs_same : (old new : List ℕ) → GrowsTo old new → (rows : List PairRow) → All (IsPairRow old) rows → pairs_held new rows ≡ pairs_held old rows
pairs_same old new grown rows well = all_same (IsPairRow old) (pair_held new) (pair_held old) (pair_same old new grown) rows well

rows_well : (old new : List ℕ) → GrowsTo old new → (n p : ℕ) (rows : List RunRow) → AreRunsFrom old n p rows → AreRunsFrom new n p rows
unfolding AreRunsFrom
rows_well old new grown n p [] well = well
rows_well old new grown n p (row ∷ rows) (list, at, more, rest) =
    (grown.words row.list list, grown.words row.at at, more, rows_well old new grown n row.pairs rows rest)

runs_same : (old new : List ℕ) → GrowsTo old new → (pairs : List ViewPair) (n p : ℕ) (rows : List RunRow) → AreRunsFrom old n p rows → runs_from new pairs p rows ≡ runs_from old pairs p rows
unfolding AreRunsFrom runs_from
runs_same old new grown pairs n p [] well = refl
runs_same old new grown pairs n p (row ∷ rows) (list, at, more, rest) =
    let list_same = grown.same row.list list in
    let at_same = grown.same row.at at in
    let others = runs_same old new grown pairs n row.pairs rows rest in
    cc

pub grown_well : (old new : List ℕ) → GrowsTo old new → (rows : List RunRow) (pairs : List PairRow) → AreRunsHeldWell old rows pairs → AreRunsHeldWell new rows pairs
grown_well old new grown rows pairs well = record {
  rows_well = rows_well old new grown (length pairs) 0 rows well.rows_well;
  pairs_well = pairs_well old new grown pairs well.pairs_well;
}

pub grown_held : (old new : List ℕ) → GrowsTo old new → (rows : List RunRow) (pairs : List PairRow) → AreRunsHeldWell old rows pairs → runs_held new rows pairs ≡ runs_held old rows pairs
grown_held old new grown rows pairs well =
    ap (λ all. runs_from new all 0 rows) (pairs_same old new grown pairs well.pairs_well) ∙ runs_same old new grown (pairs_held old pairs) (length pairs) 0 rows well.rows_well

-- EACH RUN

rows_order : (long : List ℕ) (n p : ℕ) (rows : List RunRow) → AreRunsFrom long n p rows → p ≤ n
unfolding AreRunsFrom
rows_order long n p [] end = omega arith
rows_order long n p (row ∷ rows) (list, at, more, rest) =
    let order = rows_order long n row.pairs rows rest in
    omega arith

runs_length : (long : List ℕ) (pairs : List ViewPair) (p : ℕ) (rows : List RunRow) → length (runs_from long pairs p rows) ≡ length rows
unfolding runs_from
runs_length long pairs p [] = refl
runs_length long pairs p (row ∷ rows) = ap suc (runs_length long pairs row.pairs rows)

-- the row with a number, and where its pairs begin
pub record IsRowIn (long : List ℕ) (n p : ℕ) (rows : List RunRow) (k : ℕ) (row : RunRow) : Type 0 where
  pub list : IsWord long row.list
  pub at : IsWord long row.at
  pub pairs : begin_of p (pair_ends rows) k ≤ row.pairs
  pub all_pairs : row.pairs ≤ n

row_in : (long : List ℕ) (n p : ℕ) (rows : List RunRow) (k : ℕ) (r : RunRow) → AreRunsFrom long n p rows → k < length rows → IsRowIn long n p rows k (get_or rows k r)
unfolding AreRunsFrom begin_of
row_in long n p [] k r well inside = absurd (omega arith)
row_in long n p (row ∷ rows) zero r (list, at, more, rest) inside =
    record { list = list; at = at; pairs = more; all_pairs = rows_order long n row.pairs rows rest }
row_in long n p (row ∷ rows) (suc k) r (list, at, more, rest) inside =
    let next = row_in long n row.pairs rows k r rest (omega arith) in
    record { list = next.list; at = next.at; pairs = next.pairs; all_pairs = next.all_pairs }

run_in : (long : List ℕ) (pairs : List ViewPair) (p : ℕ) (rows : List RunRow) (k : ℕ) (r : RunRow) (d : HeldViews) → k < length rows → get_or (runs_from long pairs p rows) k d ≡ record { list = word_held long (get_or rows k r).list; at = word_held long (get_or rows k r).at; pairs = slice_range pairs (begin_of p (pair_ends rows) k) (get_or rows k r).pairs }
unfolding runs_from begin_of
run_in long pairs p [] k r d inside = absurd (omega arith)
run_in long pairs p (row ∷ rows) zero r d inside = refl
run_in long pairs p (row ∷ rows) (suc k) r d inside = run_in long pairs row.pairs rows k r d (omega arith)

pub runs_count : (long : List ℕ) (rows : List RunRow) (pairs : List PairRow) (runs : List HeldViews) → runs_held long rows pairs ≡ runs → length runs ≡ length rows
runs_count long rows pairs runs same = ap (λ (rs : List HeldViews). length rs) (sym same) ∙ runs_length long (pairs_held long pairs) 0 rows

pub row_at : (long : List ℕ) (rows : List RunRow) (pairs : List PairRow) (runs : List HeldViews) (k : ℕ) (row : RunRow) → AreRunsHeldWell long rows pairs → runs_held long rows pairs ≡ runs → k < length runs → row ≡ get_or rows k row → IsRowIn long (length pairs) 0 rows k row
row_at long rows pairs runs k row well same inside is =
    let here : k < length rows = omega (arith, runs_count long rows pairs runs same) in
    subst (λ (r : RunRow). IsRowIn long (length pairs) 0 rows k r) (sym is) (row_in long (length pairs) 0 rows k row well.rows_well here)

-- a run is that of a row, with the pairs that belong to it
pub run_at : (long : List ℕ) (rows : List RunRow) (pairs : List PairRow) (runs : List HeldViews) (k : ℕ) (row : RunRow) → runs_held long rows pairs ≡ runs → k < length runs → row ≡ get_or rows k row → (d : HeldViews) → get_or runs k d ≡ record { list = word_held long row.list; at = word_held long row.at; pairs = slice_range (pairs_held long pairs) (begin_of 0 (pair_ends rows) k) row.pairs }
run_at long rows pairs runs k row same inside is d =
    let here : k < length rows = omega (arith, runs_count long rows pairs runs same) in
    subst (λ (r : RunRow). get_or runs k d ≡ record { list = word_held long r.list; at = word_held long r.at; pairs = slice_range (pairs_held long pairs) (begin_of 0 (pair_ends rows) k) r.pairs }) (sym is)
    (ap (λ (rs : List HeldViews). get_or rs k d) (sym same) ∙ run_in long (pairs_held long pairs) 0 rows k row d here)

-- how many pairs a run has
pub pairs_counted : (long : List ℕ) (rows : List RunRow) (pairs : List PairRow) (runs : List HeldViews) (k : ℕ) (row : RunRow) → AreRunsHeldWell long rows pairs → runs_held long rows pairs ≡ runs → k < length runs → row ≡ get_or rows k row → (d : HeldViews) → length (get_or runs k d).pairs ≡ row.pairs - begin_of 0 (pair_ends rows) k
pairs_counted long rows pairs runs k row well same inside is d =
    let here = row_at long rows pairs runs k row well same inside is in
    let order : begin_of 0 (pair_ends rows) k ≤ row.pairs = here.pairs in
    let within : row.pairs ≤ length (pairs_held long pairs) = omega (arith, here.all_pairs, length-map pairs (pair_held long)) in
    ap (λ (r : HeldViews). length r.pairs) (run_at long rows pairs runs k row same inside is d)
    ∙ range_length (pairs_held long pairs) (begin_of 0 (pair_ends rows) k) row.pairs order within

-- a run with a number has a row
some_row : (long : List ℕ) (rows : List RunRow) (pairs : List PairRow) (runs : List HeldViews) (k : ℕ) → runs_held long rows pairs ≡ runs → k < length runs → (row : RunRow) × (row ≡ get_or rows k row)
some_row long [] pairs runs k same inside = absurd (omega (arith, runs_count long [] pairs runs same))
some_row long (first ∷ rows) pairs runs k same inside =
    let here : k < length (first ∷ rows) = omega (arith, runs_count long (first ∷ rows) pairs runs same) in
    (get_or (first ∷ rows) k first, get_or_default (first ∷ rows) k first (get_or (first ∷ rows) k first) here)

-- the row of a pair of a run
pub pair_inside : (long : List ℕ) (rows : List RunRow) (pairs : List PairRow) (runs : List HeldViews) (k : ℕ) → AreRunsHeldWell long rows pairs → runs_held long rows pairs ≡ runs → k < length runs → (i : ℕ) → ((d : HeldViews) → i < length (get_or runs k d).pairs) → begin_of 0 (pair_ends rows) k + i < length pairs
pair_inside long rows pairs runs k well same inside i within =
    let (row, is) = some_row long rows pairs runs k same inside in
    let here = row_at long rows pairs runs k row well same inside is in
    let some : i < length (get_or runs k record { list = 0; at = 0; pairs = [] }).pairs = within record { list = 0; at = 0; pairs = [] } in
    let count = pairs_counted long rows pairs runs k row well same inside is record { list = 0; at = 0; pairs = [] } in
    omega (arith, here.all_pairs, here.pairs, count)

pub pair_at : (long : List ℕ) (rows : List RunRow) (pairs : List PairRow) (runs : List HeldViews) (k : ℕ) → AreRunsHeldWell long rows pairs → runs_held long rows pairs ≡ runs → k < length runs → (d : HeldViews) (i : ℕ) → i < length (get_or runs k d).pairs → (e : ViewPair) (r : PairRow) → get_or (get_or runs k d).pairs i e ≡ pair_held long (get_or pairs (begin_of 0 (pair_ends rows) k + i) r)
pair_at long rows pairs runs k well same inside d i within e r =
    let (row, is) = some_row long rows pairs runs k same inside in
    let here = row_at long rows pairs runs k row well same inside is in
    let first = begin_of 0 (pair_ends rows) k in
    let count : length (get_or runs k d).pairs ≡ row.pairs - first = pairs_counted long rows pairs runs k row well same inside is d in
    let fits : i < row.pairs - first = omega arith in
    ap (λ (l : HeldViews). get_or l.pairs i e) (run_at long rows pairs runs k row same inside is d)
    ∙ range_at (pairs_held long pairs) first row.pairs i e fits
    ∙ get_or-map (pair_held long) pairs (first + i) r e (omega (arith, here.all_pairs))

-- ONE MORE

end_push : (long : List ℕ) (n p q : ℕ) (rows : List RunRow) (row : RunRow) → AreRunsFrom long n p rows → IsWord long row.list → IsWord long row.at → n ≤ row.pairs → row.pairs ≡ q → AreRunsFrom long q p (rows ++ row ∷ [])
unfolding AreRunsFrom
end_push long n p q [] row end list at more last = (list, at, omega arith, last)
end_push long n p q (first ∷ rows) row (first_list, first_at, first_more, rest) list at more last =
    (first_list, first_at, first_more, end_push long n first.pairs q rows row rest list at more last)

runs_push : (long : List ℕ) (pairs more : List ViewPair) (p : ℕ) (rows : List RunRow) (row : RunRow) → AreRunsFrom long (length pairs) p rows → row.pairs ≡ length (pairs ++ more) → runs_from long (pairs ++ more) p (rows ++ row ∷ []) ≡ runs_from long pairs p rows ++ run_of long row more ∷ []
unfolding AreRunsFrom runs_from
runs_push long pairs more p [] row end last =
    ap (λ (all : List ViewPair). run_of long row all ∷ []) (range_end pairs more p row.pairs end last)
runs_push long pairs more p (first ∷ rows) row (list, at, first_more, rest) last =
    let order = rows_order long (length pairs) first.pairs rows rest in
    let here : slice_range (pairs ++ more) p first.pairs ≡ slice_range pairs p first.pairs = range_left pairs more p first.pairs first_more order in
    let others = runs_push long pairs more first.pairs rows row rest last in
    cc

-- a run whose row and pairs are put behind the others
pub run_pushed : (old new : List ℕ) (rows : List RunRow) (pairs more : List PairRow) (row : RunRow) (run : HeldViews) → AreRunsHeldWell old rows pairs → GrowsTo old new → All (IsPairRow new) more → pairs_held new more ≡ pairs_held old pairs ++ run.pairs → IsWord new row.list × (word_held new row.list ≡ run.list) → IsWord new row.at × (word_held new row.at ≡ run.at) → row.pairs ≡ length more → IsOneMoreRun (runs_held old rows pairs) run new (rows ++ row ∷ []) more
run_pushed old new rows pairs more row run well grown pairs_are held (list, list_is) (at, at_is) last =
    let count : length more ≡ length (pairs_held old pairs ++ run.pairs) = sym (length-map more (pair_held new)) ∙ ap (λ (ps : List ViewPair). length ps) held in
    let pair_count : length (pairs_held old pairs) ≡ length pairs = length-map pairs (pair_held old) in
    let sum : length (pairs_held old pairs ++ run.pairs) ≡ length (pairs_held old pairs) + length run.pairs = length-append (pairs_held old pairs) run.pairs in
    let before : AreRunsFrom new (length pairs) 0 rows = rows_well old new grown (length pairs) 0 rows well.rows_well in
    let counted : AreRunsFrom new (length (pairs_held old pairs)) 0 rows = subst (λ (n : ℕ). AreRunsFrom new n 0 rows) (sym pair_count) before in
    let is : run_of new row run.pairs ≡ run = rw (list_is, at_is) refl in
    record {
      well = record {
        rows_well = end_push new (length pairs) 0 (length more) rows row before list at (omega arith) last;
        pairs_well = pairs_are;
      };
      pushed =
          ap (λ (ps : List ViewPair). runs_from new ps 0 (rows ++ row ∷ [])) held
          ∙ runs_push new (pairs_held old pairs) run.pairs 0 rows row counted (last ∙ count)
          ∙ ap (λ (rs : List HeldViews). rs ++ run_of new row run.pairs ∷ []) (runs_same old new grown (pairs_held old pairs) (length pairs) 0 rows well.rows_well)
          ∙ ap (λ (r : HeldViews). runs_held old rows pairs ++ r ∷ []) is;
    }

-- NONE

pub none_well : AreRunsHeldWell [] [] []
unfolding AreRunsFrom
none_well = record { rows_well = refl; pairs_well = λ k d inside. absurd (omega arith) }

pub none_held : runs_held [] [] [] ≡ []
unfolding runs_from
none_held = refl
