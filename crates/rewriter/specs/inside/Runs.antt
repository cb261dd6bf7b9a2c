-- The view pairs of the lists of a file, as they are to be written.
-- Inner functions and proofs alone need what stands here.
use Rattle.std.specs.Prelude.{◌≡◌, ◌≢◌, ◌≤◌, ◌∷◌, ℕ, List, [], length, map, take, drop}
use Rattle.std.specs.List.{All}
use Rattle.list_model.specs.declared.entry.ListKind.{ListKind}
use Rattle.list_model.specs.declared.entry.ListKind.TheVariants.{Ranges, Locations}
use Rattle.list_write.specs.declared.named.ViewRun.{ViewRun}
use Rattle.list_write.specs.Written.{Run, run_of}
use Rattle.list_arena.specs.Held.{HeldViews}
use Rattle.value_links.specs.Reading.{ViewRead}
use Rattle.value_links.specs.World.{World}

-- the view pairs of lists of a kind; ranges have none
abbrev pub views_among : ListKind → List ViewRead → List ViewRead
views_among Ranges views = []
views_among Locations views = views

abbrev pub views_held : World → ListKind → List HeldViews
views_held world Ranges = []
views_held world Locations = world.views

-- view pairs as they are to be written
abbrev pub run_for : ViewRead → Run
run_for view = record { at = view.at; pairs = view.pairs }

abbrev pub run_held : HeldViews → Run
run_held view = record { at = view.at; pairs = view.pairs }

-- these are the first of the view pairs, which go with the list at a place; the next ones don't
pub record AreRunsWith (views : List HeldViews) (list : ℕ) (runs : List ViewRun) : Type 0 where
  pub inside : length runs ≤ length views
  pub are : map run_of runs ≡ map run_held (take (length runs) views)
  pub same : All (λ (view : HeldViews). view.list ≡ list) (take (length runs) views)
  pub other : (view : HeldViews) (rest : List HeldViews) → drop (length runs) views ≡ view ∷ rest → view.list ≢ list

-- likewise the first of all, so many, and no more are asked
pub record AreRunsUpTo (views : List HeldViews) (list count : ℕ) (runs : List ViewRun) : Type 0 where
  pub counted : length runs ≡ count
  pub are : map run_of runs ≡ map run_held (take count views)
  pub same : All (λ (view : HeldViews). view.list ≡ list) (take count views)
