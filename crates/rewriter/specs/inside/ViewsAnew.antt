-- What is read of the view pairs of lists that were written anew.
-- Inner functions and proofs alone need what stands here.
use Rattle.std.specs.Prelude.{◌≡◌, ◌<◌, ◌⊎◌, ℕ, List, [], length, slice_index}
use Rattle.loc_lists.specs.Views.{IsRunAt}
use Rattle.value_links.specs.Reading.{ViewRead, Reading, part_at, list_at, view_at}
use Rattle.value_links.specs.ListPlaces.{IsListPlace}
use Rattle.value_links.specs.Lists.{AreViewsApart}
use Rattle.written_files.specs.TidyLists.{IsRunMoved}
use Rattle.rewriter.specs.declared.new_places.MovedViews.{MovedViews}
use Rattle.rewriter.specs.inside.NewPlaces.{moved_views_at}

-- view pairs stand in the contribution of the list with which they go
pub record IsRunIn (s : Reading) (view : ViewRead) : Type 0 where
  pub k : ℕ
  pub inside : k < length s.location_lists
  pub with : (list_at s.location_lists k).at ≡ view.list
  pub begins : IsListPlace s.links.locations (list_at s.location_lists k).part view.at
  pub stands : IsRunAt s.links.locations.section (part_at s.links.locations (list_at s.location_lists k).part) view.at view.pairs

-- Each run is one of the new file, in the same order, where it has its new place, with the same pairs; and these are all. Runs without
-- pairs that go with one list are one.
pub record AreViewsAnew (r s : Reading) (moved : List MovedViews) : Type 0 where
  pub count : length moved ≡ length r.views
  pub with : (k : ℕ) → k < length r.views → (moved_views_at moved k).list ≡ (view_at r.views k).list
  pub from : (k : ℕ) → k < length r.views → (moved_views_at moved k).old ≡ (view_at r.views k).at
  pub numbers : List ℕ
  pub numbered : length numbers ≡ length r.views
  pub inside : (k : ℕ) → k < length r.views → slice_index numbers k < length s.views
  pub to : (k : ℕ) → k < length r.views → (moved_views_at moved k).new ≡ (view_at s.views (slice_index numbers k)).at
  pub order : (j k : ℕ) → j < k → k < length r.views → (slice_index numbers j < slice_index numbers k) ⊎ ((slice_index numbers j ≡ slice_index numbers k) × ((view_at r.views k).pairs ≡ []))
  pub all : (n : ℕ) → n < length s.views → (k : ℕ) × (k < length r.views) × (slice_index numbers k ≡ n)
  pub each : (k : ℕ) → k < length r.views → IsRunMoved r s (view_at r.views k) (view_at s.views (slice_index numbers k))
  pub rising : (j k : ℕ) → j < k → k < length s.views → AreViewsApart (view_at s.views j) (view_at s.views k)
  pub read : (n : ℕ) → n < length s.views → IsRunIn s (view_at s.views n)
