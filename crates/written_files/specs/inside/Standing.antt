-- The lists and runs of view pairs of a written file, as they stand in their contributions, with no byte too many in lengths and pairs.
use Rattle.std.specs.Prelude.{◌≡◌, ◌<◌, ◌++◌, ℕ, List, length}
use Rattle.spelled.specs.Spelled.{Joined}
use Rattle.list_model.specs.declared.entry.ListKind.{ListKind}
use Rattle.list_model.specs.Contributions.{bytes_from}
use Rattle.loc_lists.specs.Views.{ShortestPair}
use Rattle.value_links.specs.Reading.{Reading, of_kind, lists_of, part_at, list_at, view_at}
use Rattle.written_files.specs.TidyLists.{IsWhole}

-- the list of a kind with a number
pub record StandsWhole (kind : ListKind) (s : Reading) (k : ℕ) : Type 0 where
  pub bytes : List ℕ
  pub rest : List ℕ
  pub whole : IsWhole kind (list_at (lists_of s kind) k).raws bytes
  pub stands : bytes_from (of_kind s.links kind).section (part_at (of_kind s.links kind) (list_at (lists_of s kind) k).part) (list_at (lists_of s kind) k).at ≡ bytes ++ rest

-- the run with a number, in the contribution of the list with which it goes
pub record RunStands (s : Reading) (n : ℕ) : Type 0 where
  pub k : ℕ
  pub inside : k < length s.location_lists
  pub list : (list_at s.location_lists k).at ≡ (view_at s.views n).list
  pub bytes : List ℕ
  pub rest : List ℕ
  pub pairs : Joined ShortestPair (view_at s.views n).pairs bytes
  pub stands : bytes_from s.links.locations.section (part_at s.links.locations (list_at s.location_lists k).part) (view_at s.views n).at ≡ bytes ++ rest
