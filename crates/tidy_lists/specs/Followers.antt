-- Which lists and view pairs of a file that is written anew for another are those of the old file (DWARF 5 sections 2.6.2, 2.17.3, 7.28 and
-- 7.29): those that the same value names, or the same slot. Both files mean the same, so that the value with a number in a unit and the slot
-- with a number in a contribution of the written file are those with these numbers in the old one.
use Rattle.std.specs.Prelude.{◌≡◌, ◌<◌, ◌⊎◌, ◌++◌, ℕ, List, length, map}
use Rattle.spelled.specs.Spelled.{Joined}
use Rattle.list_model.specs.declared.entry.ListKind.{ListKind}
use Rattle.list_model.specs.declared.entry.ListKind.TheVariants.{Ranges, Locations}
use Rattle.list_model.specs.declared.entry.RawEntry.{RawEntry}
use Rattle.list_model.specs.Contributions.{bytes_from}
use Rattle.list_model.specs.Entries.{Entry, SpellsList, AreSaid}
use Rattle.loc_lists.specs.Locations.{SpellsLocationList}
use Rattle.loc_lists.specs.Views.{SpellsPair}
use Rattle.value_links.specs.Linked.{IsLinked}
use Rattle.value_links.specs.Linked.Linked.{ListAt, ViewsAt}
use Rattle.value_links.specs.ListPlaces.{SlotNames}
use Rattle.value_links.specs.Reading.{ListRead, ViewRead, Reading, of_kind, lists_of, part_at, list_at, view_at}

-- LISTS

-- a value of a unit names the old list by its place and the written one likewise
abbrev pub FollowsByValue : ListKind → Reading → Reading → ℕ → ℕ → Type 0
FollowsByValue kind r s k m =
    (u : ℕ) × (number : ℕ) × (u < length r.links.units) × IsLinked r.links u number (ListAt kind (list_at (lists_of r kind) k).at) × IsLinked s.links u number (ListAt kind (list_at (lists_of s kind) m).at)

-- so does a slot of a contribution
abbrev pub FollowsBySlot : ListKind → Reading → Reading → ℕ → ℕ → Type 0
FollowsBySlot kind r s k m =
    (p : ℕ) × (i : ℕ) × SlotNames (of_kind r.links kind) p i (list_at (lists_of r kind) k).at × SlotNames (of_kind s.links kind) p i (list_at (lists_of s kind) m).at

-- the old list with a number is the written one with a number
pub record Follows (kind : ListKind) (r s : Reading) (k m : ℕ) : Type 0 where
  pub known : k < length (lists_of r kind)
  pub inside : m < length (lists_of s kind)
  pub by : FollowsByValue kind r s k m ⊎ FollowsBySlot kind r s k m

-- the first of these
pub record FollowsFirst (kind : ListKind) (r s : Reading) (k m : ℕ) : Type 0 where
  pub follows : Follows kind r s k m
  pub first : (earlier : ℕ) → earlier < m → ¬ Follows kind r s k earlier

-- VIEW PAIRS

-- a value names the old run of view pairs with a number and the written one with a number
pub record RunFollows (r s : Reading) (j n : ℕ) : Type 0 where
  pub known : j < length r.views
  pub inside : n < length s.views
  pub u : ℕ
  pub number : ℕ
  pub unit : u < length r.links.units
  pub old : IsLinked r.links u number (ViewsAt (view_at r.views j).list (view_at r.views j).at)
  pub new : IsLinked s.links u number (ViewsAt (view_at s.views n).list (view_at s.views n).at)

pub record RunFollowsFirst (r s : Reading) (j n : ℕ) : Type 0 where
  pub follows : RunFollows r s j n
  pub first : (earlier : ℕ) → earlier < n → ¬ RunFollows r s j earlier

-- BYTES

-- the bytes are a list with what is read of its entries
abbrev pub AreBytesOf : ListKind → List RawEntry → List ℕ → Type 0
AreBytesOf Ranges raws bytes = (entries : List Entry) × AreSaid Ranges raws entries × SpellsList Ranges entries bytes
AreBytesOf Locations raws bytes =
    (locations : List (Entry × List ℕ)) × AreSaid Locations raws (map (λ (location : Entry × List ℕ). location.0) locations) × SpellsLocationList locations bytes

-- the list has so many bytes, as it stands in its contribution
pub record HasLength (kind : ListKind) (s : Reading) (list : ListRead) (len : ℕ) : Type 0 where
  pub bytes : List ℕ
  pub rest : List ℕ
  pub stands : bytes_from (of_kind s.links kind).section (part_at (of_kind s.links kind) list.part) list.at ≡ bytes ++ rest
  pub read : AreBytesOf kind list.raws bytes
  pub count : len ≡ length bytes

-- the contribution in which a run of view pairs stands is that of its list
pub record IsPartOfRun (s : Reading) (run : ViewRead) (p : ℕ) : Type 0 where
  pub k : ℕ
  pub inside : k < length s.location_lists
  pub list : (list_at s.location_lists k).at ≡ run.list
  pub part : (list_at s.location_lists k).part ≡ p

-- the run of view pairs has so many bytes
pub record RunHasLength (s : Reading) (run : ViewRead) (len : ℕ) : Type 0 where
  pub p : ℕ
  pub part : IsPartOfRun s run p
  pub bytes : List ℕ
  pub rest : List ℕ
  pub stands : bytes_from s.links.locations.section (part_at s.links.locations p) run.at ≡ bytes ++ rest
  pub read : Joined SpellsPair run.pairs bytes
  pub count : len ≡ length bytes
