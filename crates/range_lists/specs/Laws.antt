-- Laws of range lists.
use Rattle.std.specs.Prelude.{◌≡◌, ◌≤◌, ◌++◌, ℕ, List, length}
use Rattle.spelled.specs.Spelled.{HasUniqueFronts}
use Rattle.dw_base.specs.Refusals.{IsFaulty}
use Rattle.dw_base.specs.declared.fault.Reach.{Reach}
use Rattle.list_model.specs.declared.context.Context.{Context}
use Rattle.list_model.specs.declared.contribution.Contribution.{Contribution}
use Rattle.list_model.specs.declared.entry.RawEntry.{RawEntry}
use Rattle.list_model.specs.declared.item.Meaning.{Meaning}
use Rattle.list_model.specs.declared.entry.ListKind.TheVariants.{Ranges}
use Rattle.list_model.specs.Contributions.{bytes_from}
use Rattle.list_model.specs.Entries.{Entry, SpellsList, AreSaid}
use Rattle.list_model.specs.Reading.{list_entry_limit}
use Rattle.list_model.specs.Items.{FaultIndexes}
use Rattle.range_lists.specs.Ranges.{IsRangeList, FaultRangeList, IsMeaning}

-- A range list's bytes end by themselves: none begins another, and bytes spell one list.
abbrev pub RangesEnd : Type 0
RangesEnd = HasUniqueFronts (SpellsList Ranges)

-- At a place of a contribution one list is read.
abbrev pub OneRangeList : Type 0
OneRangeList = (section : List ℕ) (part : Contribution) (at : ℕ) (raws others : List RawEntry) → IsRangeList section part at raws → IsRangeList section part at others → raws ≡ others

-- A list that is read is spelled at its place.
abbrev pub RangesSpelled : Type 0
RangesSpelled = (section : List ℕ) (part : Contribution) (at : ℕ) (raws : List RawEntry) → IsRangeList section part at raws → (entries : List Entry) × (bytes : List ℕ) × (rest : List ℕ) × AreSaid Ranges raws entries × SpellsList Ranges entries bytes × (bytes_from section part at ≡ bytes ++ rest)

-- A list that is spelled at a place is read there.
abbrev pub RangesWritten : Type 0
RangesWritten = (section : List ℕ) (part : Contribution) (at : ℕ) (entries : List Entry) (bytes rest : List ℕ) → bytes_from section part at ≡ bytes ++ rest → SpellsList Ranges entries bytes → (raws : List RawEntry) × IsRangeList section part at raws × AreSaid Ranges raws entries

-- A list that is read has no fault, where its entries keep the limit.
abbrev pub RangesWhole : Type 0
RangesWhole = (section : List ℕ) (part : Contribution) (at : ℕ) (reach : Reach) (raws : List RawEntry) → IsRangeList section part at raws → length raws ≤ list_entry_limit reach → ¬ IsFaulty (FaultRangeList section part at reach)

-- A list says one thing in a context.
abbrev pub OneMeaning : Type 0
OneMeaning = (addr : List ℕ) (context : Context) (raws : List RawEntry) (meaning other : Meaning) → IsMeaning addr context raws meaning → IsMeaning addr context raws other → meaning ≡ other

-- A list that says something in a context asks for no index that can't be looked up there.
abbrev pub ItemsWhole : Type 0
ItemsWhole = (addr : List ℕ) (context : Context) (raws : List RawEntry) (meaning : Meaning) → IsMeaning addr context raws meaning → ¬ IsFaulty (FaultIndexes Ranges context raws)
