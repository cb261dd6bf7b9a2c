-- Laws of location lists and view pairs.
use Rattle.std.specs.Prelude.{◌≡◌, ◌≤◌, ◌++◌, ℕ, List, length, filter, not}
use Rattle.std.specs.List.{AllZip}
use Rattle.spelled.specs.Spelled.{HasUniqueFronts, NeverBoth, EndsApart}
use Rattle.dw_base.specs.Refusals.{IsFaulty}
use Rattle.dw_base.specs.declared.fault.Reach.{Reach}
use Rattle.list_model.specs.declared.context.Context.{Context}
use Rattle.list_model.specs.declared.contribution.Contribution.{Contribution}
use Rattle.list_model.specs.declared.entry.RawEntry.{RawEntry}
use Rattle.list_model.specs.declared.item.Meaning.{Meaning}
use Rattle.list_model.specs.declared.entry.ListKind.TheVariants.{Locations}
use Rattle.list_model.specs.Contributions.{bytes_from}
use Rattle.list_model.specs.Entries.{Entry, IsListEnd, Says, AreSaid}
use Rattle.list_model.specs.Reading.{list_entry_limit}
use Rattle.list_model.specs.Items.{Bounds, HasBounds, Give, sets_base, FaultIndexes}
use Rattle.loc_lists.specs.declared.views.ViewPair.{ViewPair}
use Rattle.loc_lists.specs.Locations.{SpellsLocation, FaultLocation, SpellsLocationList, IsLocationList, FaultLocationList, items_among, expressions_of, entries_of, item_expressions, IsMeaning}
use Rattle.loc_lists.specs.Views.{IsRunAt, FaultRun, view_limit, FaultViews}

-- The bytes of an entry with its expression end by themselves: none begins another, and bytes spell one.
abbrev pub LocationEntriesEnd : Type 0
LocationEntriesEnd = HasUniqueFronts SpellsLocation

-- None begins with the end of a list.
abbrev pub LocationEntriesApart : Type 0
LocationEntriesApart = EndsApart SpellsLocation IsListEnd

-- Bytes that begin with an entry and its expression have no fault of these.
abbrev pub LocationEntriesWhole : Type 0
LocationEntriesWhole = NeverBoth SpellsLocation FaultLocation

-- A location list's bytes end by themselves: none begins another, and bytes spell one list.
abbrev pub LocationsEnd : Type 0
LocationsEnd = HasUniqueFronts SpellsLocationList

-- At a place of a contribution one list is read.
abbrev pub OneLocationList : Type 0
OneLocationList = (section : List ℕ) (part : Contribution) (at : ℕ) (raws others : List RawEntry) → IsLocationList section part at raws → IsLocationList section part at others → raws ≡ others

-- what is read of a list says these entries, and these expressions lie where it says
pub record AreTold (section : List ℕ) (raws : List RawEntry) (locations : List (Entry × List ℕ)) : Type 0 where
  pub said : AreSaid Locations raws (entries_of locations)
  pub expressions : expressions_of section raws ≡ item_expressions locations

-- A list that is read is spelled at its place, with the expressions that lie where it says.
abbrev pub LocationsSpelled : Type 0
LocationsSpelled = (section : List ℕ) (part : Contribution) (at : ℕ) (raws : List RawEntry) → IsLocationList section part at raws → (locations : List (Entry × List ℕ)) × (bytes : List ℕ) × (rest : List ℕ) × AreTold section raws locations × SpellsLocationList locations bytes × (bytes_from section part at ≡ bytes ++ rest)

-- A list that is spelled at a place is read there, with its expressions.
abbrev pub LocationsWritten : Type 0
LocationsWritten = (section : List ℕ) (part : Contribution) (at : ℕ) (locations : List (Entry × List ℕ)) (bytes rest : List ℕ) → bytes_from section part at ≡ bytes ++ rest → SpellsLocationList locations bytes → (raws : List RawEntry) × IsLocationList section part at raws × AreTold section raws locations

-- A list that is read has no fault, where its entries keep the limit.
abbrev pub LocationsWhole : Type 0
LocationsWhole = (section : List ℕ) (part : Contribution) (at : ℕ) (reach : Reach) (raws : List RawEntry) → IsLocationList section part at raws → length raws ≤ list_entry_limit reach → ¬ IsFaulty (FaultLocationList section part at reach)

-- A list says one thing in a context.
abbrev pub OneMeaning : Type 0
OneMeaning = (addr : List ℕ) (context : Context) (raws : List RawEntry) (meaning other : Meaning) → IsMeaning addr context raws meaning → IsMeaning addr context raws other → meaning ≡ other

-- A list that says something in a context asks for no index that can't be looked up there.
abbrev pub ItemsWhole : Type 0
ItemsWhole = (addr : List ℕ) (context : Context) (raws : List RawEntry) (meaning : Meaning) → IsMeaning addr context raws meaning → ¬ IsFaulty (FaultIndexes Locations context raws)

-- What is read of the items among some entries says those of the entries that set no base.
abbrev pub ItemsSaid : Type 0
ItemsSaid = (raws : List RawEntry) (entries : List Entry) → AreSaid Locations raws entries → AreSaid Locations (items_among raws) (filter (λ (entry : Entry). not (sets_base entry.kind)) entries)

-- what is read of an entry says an item with these bounds under some base
abbrev pub SaysBounds : List ℕ → Context → RawEntry → Bounds → Type 0
SaysBounds addr context raw bounds = (entry : Entry) × (base : ℕ) × Says Locations raw entry × HasBounds addr context base entry.kind entry.a entry.b bounds

-- The bounds that a list gives are one for each of its items, in their order, also where the list is dead.
abbrev pub BoundsEach : Type 0
BoundsEach = (addr : List ℕ) (context : Context) (raws : List RawEntry) (entries : List Entry) (bounds : List Bounds) → AreSaid Locations raws entries → Give addr context entries bounds → AllZip (SaysBounds addr context) (items_among raws) bounds

-- There are as many bounds as items.
abbrev pub BoundsCounted : Type 0
BoundsCounted = (addr : List ℕ) (context : Context) (raws : List RawEntry) (entries : List Entry) (bounds : List Bounds) → AreSaid Locations raws entries → Give addr context entries bounds → length bounds ≡ length (items_among raws)

-- At a place of a contribution stand one run of so many pairs.
abbrev pub OneRun : Type 0
OneRun = (section : List ℕ) (part : Contribution) (at : ℕ) (pairs others : List ViewPair) → IsRunAt section part at pairs → IsRunAt section part at others → length pairs ≡ length others → pairs ≡ others

-- None of the pairs that stand at a place has a fault.
abbrev pub RunsWhole : Type 0
RunsWhole = (section : List ℕ) (part : Contribution) (at : ℕ) (pairs : List ViewPair) → IsRunAt section part at pairs → ¬ IsFaulty (FaultRun section part at (length pairs))

-- Nor have they all together, where they keep the limit.
abbrev pub ViewsWhole : Type 0
ViewsWhole = (section : List ℕ) (part : Contribution) (at : ℕ) (pairs : List ViewPair) → IsRunAt section part at pairs → length pairs ≤ view_limit → ¬ IsFaulty (FaultViews section part at (length pairs))
