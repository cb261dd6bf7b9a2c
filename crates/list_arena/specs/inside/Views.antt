-- How view pairs are held: each run by a row, with so many rows of pairs behind those of the run before.
-- Private functions alone cite this, and the model of runs.
use Rattle.std.specs.Prelude.{◌≡◌, ◌<◌, ◌≤◌, ℕ, List, [], ◌∷◌, length, map, slice_range, ◌++◌, ◌⊎◌}
use Rattle.std.specs.List.{All}
use Rattle.loc_lists.specs.declared.views.ViewPair.{ViewPair}
use Rattle.list_arena.specs.declared.views.PairRow.{PairRow}
use Rattle.list_arena.specs.declared.views.RunRow.{RunRow}
use Rattle.list_arena.specs.Held.{HeldViews}
use Rattle.list_arena.specs.inside.Words.{word_held, IsWord}

-- the pair of a row, where these numbers are held whole
unfoldable pub pair_held : List ℕ → PairRow → ViewPair
pair_held long row = record { first = word_held long row.first; last = word_held long row.last }

pub record IsPairRow (long : List ℕ) (row : PairRow) : Type 0 where
  pub first : IsWord long row.first
  pub last : IsWord long row.last

-- the runs of rows, whose pairs stand from this number on
unfoldable pub runs_from : List ℕ → List ViewPair → ℕ → List RunRow → List HeldViews
runs_from long pairs p [] = []
runs_from long pairs p (row ∷ rows) = record { list = word_held long row.list; at = word_held long row.at; pairs = slice_range pairs p row.pairs } ∷ runs_from long pairs row.pairs rows

-- each run ends behind the one before, and the last one where all pairs end
unfoldable pub AreRunsFrom : List ℕ → ℕ → ℕ → List RunRow → Type 0
AreRunsFrom long pairs p [] = p ≡ pairs
AreRunsFrom long pairs p (row ∷ rows) = IsWord long row.list × IsWord long row.at × (p ≤ row.pairs) × AreRunsFrom long pairs row.pairs rows

abbrev pub pairs_held : List ℕ → List PairRow → List ViewPair
pairs_held long rows = map (pair_held long) rows

abbrev pub runs_held : List ℕ → List RunRow → List PairRow → List HeldViews
runs_held long rows pairs = runs_from long (pairs_held long pairs) 0 rows

pub record AreRunsHeldWell (long : List ℕ) (rows : List RunRow) (pairs : List PairRow) : Type 0 where
  pub rows_well : AreRunsFrom long (length pairs) 0 rows
  pub pairs_well : All (IsPairRow long) pairs

-- where the pairs of a row end
abbrev pub pair_ends : List RunRow → List ℕ
pair_ends rows = map (λ row. row.pairs) rows

-- one more run is held
pub record IsOneMoreRun (before : List HeldViews) (run : HeldViews) (long : List ℕ) (rows : List RunRow) (pairs : List PairRow) : Type 0 where
  pub well : AreRunsHeldWell long rows pairs
  pub pushed : runs_held long rows pairs ≡ before ++ run ∷ []

-- a run comes before the one that goes with the list at a place and stands at another
abbrev pub IsRunBefore : HeldViews → ℕ → ℕ → Type 0
IsRunBefore run list at = (run.list < list) ⊎ ((run.list ≡ list) × (run.at < at))

-- or behind it
abbrev pub IsRunBehind : HeldViews → ℕ → ℕ → Type 0
IsRunBehind run list at = (list < run.list) ⊎ ((list ≡ run.list) × (at < run.at))
