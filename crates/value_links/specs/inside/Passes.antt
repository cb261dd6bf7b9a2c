-- What the passes of the reader of a file give.
use Rattle.std.specs.Prelude.{◌≤◌, ◌+◌, ℕ, List, map}
use Rattle.dw_base.specs.declared.fault.Reach.{Reach}
use Rattle.dw_base.specs.declared.fault.Refusal.{Refusal}
use Rattle.entry_read.specs.Units.{HeadAndForest}
use Rattle.value_links.specs.declared.parts.Parts.{Parts}
use Rattle.list_model.specs.declared.entry.ListKind.TheVariants.{Ranges, Locations}
use Rattle.list_model.specs.Reading.{list_entry_limit}
use Rattle.list_arena.specs.Held.{HeldList}
use Rattle.value_links.specs.Reading.{ListRead, Linkable}
use Rattle.value_links.specs.Lists.{AreListsOf, AreWithinReach}
use Rattle.value_links.specs.ListFaults.{list_total, entry_total, expression_bytes, expression_limit}
use Rattle.value_links.specs.World.{HoldLists}
use Rattle.value_links.specs.Whole.{AreRootsRead}
use Rattle.value_links.specs.Faults.{NamesFault}
use Rattle.value_links.specs.Laws.{AreLinked}
use Rattle.value_links.specs.Parts.{HoldsParts}
use Rattle.value_links.specs.Laws.{HaveFewRows, IsImageInOrder}

-- where units begin
abbrev pub starts_of : List HeadAndForest → List ℕ
starts_of units = map (λ (u : HeadAndForest). u.head.at) units

-- These parts are what is read of the file up to links, as far as the passes before it look.
pub record ArePartsRead (file : List ℕ) (parts : Parts) : Type 0 where
  pub r : Linkable
  pub holds : HoldsParts file r parts
  pub few : HaveFewRows r.programs

-- And all that the values of the units refer to is there, with the first bases and the address tables.
pub record ArePartsInOrder (file : List ℕ) (parts : Parts) : Type 0 where
  pub r : Linkable
  pub holds : HoldsParts file r parts
  pub few : HaveFewRows r.programs
  pub linked : AreLinked r
  pub roots : AreRootsRead r

-- the range lists and the location lists that something names are held, and keep the limits
pub record HoldAllLists (r : Linkable) (reach : Reach) (ranges locations : List HeldList) : Type 0 where
  pub range_lists : List ListRead
  pub location_lists : List ListRead
  pub are_ranges : AreListsOf r Ranges range_lists
  pub are_locations : AreListsOf r Locations location_lists
  pub hold_ranges : HoldLists r Ranges range_lists ranges
  pub hold_locations : HoldLists r Locations location_lists locations
  pub entries : entry_total range_lists + entry_total location_lists ≤ list_entry_limit reach
  pub bytes : list_total expression_bytes range_lists + list_total expression_bytes location_lists ≤ expression_limit reach
  pub within : AreWithinReach r Locations reach location_lists

-- the refusal names a fault of the file, where its image is in order within the limits
abbrev pub NamesLaterFault : List ℕ → Reach → Refusal → Type 0
NamesLaterFault file reach refusal = IsImageInOrder file reach → NamesFault file reach refusal
