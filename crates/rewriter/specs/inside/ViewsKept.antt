-- What is read of the view pairs of the lists of a kind that were written anew.
-- Inner functions and proofs alone need what stands here.
use Rattle.std.specs.Prelude.{◌≡◌, ◌<◌, ◌⊎◌, ℕ, List, [], length, slice_index}
use Rattle.list_model.specs.declared.entry.ListKind.{ListKind}
use Rattle.list_write.specs.declared.image.Moved.{Moved}
use Rattle.list_write.specs.Written.{moved_at}
use Rattle.loc_lists.specs.Views.{IsRunAt}
use Rattle.value_links.specs.Reading.{ListSection, ListRead, ViewRead, Reading, lists_of, part_at, list_at, view_at}
use Rattle.value_links.specs.ListPlaces.{IsListPlace}
use Rattle.value_links.specs.Lists.{AreViewsApart}
use Rattle.rewriter.specs.inside.Runs.{views_among}

-- view pairs stand in the contribution of the list with which they go
pub record IsRunHere (section : ListSection) (lists : List ListRead) (view : ViewRead) : Type 0 where
  pub k : ℕ
  pub inside : k < length lists
  pub with : (list_at lists k).at ≡ view.list
  pub begins : IsListPlace section (list_at lists k).part view.at
  pub stands : IsRunAt section.section (part_at section (list_at lists k).part) view.at view.pairs

-- the same pairs go with the list of the same number
pub record IsRunKept (r : Reading) (kind : ListKind) (lists : List ListRead) (old new : ViewRead) : Type 0 where
  pub list : ℕ
  pub inside : list < length (lists_of r kind)
  pub from : old.list ≡ (list_at (lists_of r kind) list).at
  pub to : new.list ≡ (list_at lists list).at
  pub pairs : new.pairs ≡ old.pairs

-- Each run is one of the new section, in the same order, where it was moved to, and these are all. Runs without pairs that go with one
-- list are one.
pub record AreViewsKept (r : Reading) (kind : ListKind) (section : ListSection) (lists : List ListRead) (made : List ViewRead) (views : List Moved) : Type 0 where
  pub numbers : List ℕ
  pub numbered : length numbers ≡ length (views_among kind r.views)
  pub inside : (k : ℕ) → k < length (views_among kind r.views) → slice_index numbers k < length made
  pub to : (k : ℕ) → k < length (views_among kind r.views) → (moved_at views k).new ≡ (view_at made (slice_index numbers k)).at
  pub order : (j k : ℕ) → j < k → k < length (views_among kind r.views) → (slice_index numbers j < slice_index numbers k) ⊎ ((slice_index numbers j ≡ slice_index numbers k) × ((view_at (views_among kind r.views) k).pairs ≡ []))
  pub all : (n : ℕ) → n < length made → (k : ℕ) × (k < length (views_among kind r.views)) × (slice_index numbers k ≡ n)
  pub each : (k : ℕ) → k < length (views_among kind r.views) → IsRunKept r kind lists (view_at (views_among kind r.views) k) (view_at made (slice_index numbers k))
  pub rising : (j k : ℕ) → j < k → k < length made → AreViewsApart (view_at made j) (view_at made k)
  pub read : (n : ℕ) → n < length made → IsRunHere section lists (view_at made n)
