-- The least places at which something is amiss.
use Rattle.std.specs.Prelude.{◌≡◌, ◌≢◌, ◌≤◌, ◌<◌, ◌+◌, ℕ, List, min, Option, Some, None, slice_index_or}
use Rattle.std.specs.List.{Contains}
use Rattle.list_model.specs.declared.entry.ListKind.{ListKind}
use Rattle.value_links.specs.Reading.{Reading}
use Rattle.value_links.specs.Sections.{offset_named, lists_name}
use Rattle.tidy_lists.specs.declared.due.Place.{Place}
use Rattle.tidy_lists.specs.declared.followers.Follower.{Follower}
use Rattle.tidy_lists.specs.Due.{Row, HoldsAt}
use Rattle.tidy_lists.specs.inside.DuePlaces.{place_at}

-- the lesser of two places, where there are two
abbrev pub lesser_of : Option ℕ → Option ℕ → Option ℕ
lesser_of None other = other
lesser_of (Some a) None = Some a
lesser_of (Some a) (Some b) = Some (min a b)

-- the pair with a number; past the end there is none
abbrev pub pair_at : List Follower → ℕ → Follower
pair_at pairs i = slice_index_or pairs i (record { old = 0; new = 0 })

-- the written thing of one of the first pairs stands here, which isn't where the old one is due
pub record IsDisplaced (count : ℕ) (pairs : List Follower) (stands due : List Place) (at : ℕ) : Type 0 where
  pub i : ℕ
  pub inside : i < count
  pub place : at ≡ (place_at stands (pair_at pairs i).new).at
  pub elsewhere : place_at stands (pair_at pairs i).new ≢ place_at due (pair_at pairs i).old

-- the old things of pairs are among so many, and the written ones too
abbrev pub AreInside : ℕ → ℕ → List Follower → Type 0
AreInside olds news pairs = (k m : ℕ) → Contains pairs (record { old = k; new = m }) → (k < olds) × (m < news)

-- a written thing is one that an old thing is, and no earlier one is
pub record IsFirstOf (pairs : List Follower) (k first : ℕ) : Type 0 where
  pub among : Contains pairs (record { old = k; new = first })
  pub least : (m : ℕ) → Contains pairs (record { old = k; new = m }) → first ≤ m

-- a row holds at an offset in the written file
pub record RowHolds (written : List ℕ) (row : Row) (r s : Reading) (p : ℕ) : Type 0 where
  pub kind : ListKind
  pub inner : ℕ
  pub holds : HoldsAt row kind r s inner
  pub place : p ≡ offset_named written (lists_name kind) + inner
