-- Laws of address tables, contributions, entries and items.
use Rattle.std.specs.Prelude.{◌≡◌, ◌∷◌, ◌++◌, ◌⊎◌, ℕ, List, length, false}
use Rattle.std.specs.List.{Contains}
use Rattle.spelled.specs.Spelled.{HasUniqueFronts, NeverBoth, EndsApart}
use Rattle.dw_base.specs.Refusals.{IsFaulty}
use Rattle.list_model.specs.declared.tables.AddrTable.{AddrTable}
use Rattle.list_model.specs.declared.contribution.Contribution.{Contribution}
use Rattle.list_model.specs.declared.context.Context.{Context}
use Rattle.list_model.specs.declared.entry.ListKind.{ListKind}
use Rattle.list_model.specs.declared.entry.RawEntry.{RawEntry}
use Rattle.list_model.specs.Addresses.{TablesFollow, HasBase}
use Rattle.list_model.specs.Contributions.{ContributionsTile, HoldsList}
use Rattle.list_model.specs.Faults.{FaultBefore, FaultTables, FaultContributions}
use Rattle.list_model.specs.Entries.{Entry, SpellsEntry, IsListEnd, BeginsWithEnd, FaultEntry, AreSaid}
use Rattle.list_model.specs.Items.{Bounds, sets_base, IsItemBehind, Give, FaultIndexes}

-- A base is that of at most one table.
abbrev pub OneTable : Type 0
OneTable = (section : List ℕ) (base : ℕ) (table other : AddrTable) → HasBase section base table → HasBase section base other → table ≡ other

-- Where a base is that of a table, no table that is met on the way to it has a fault, nor has this one.
abbrev pub TablesWhole : Type 0
TablesWhole = (section : List ℕ) (base : ℕ) (table : AddrTable) → HasBase section base table → ¬ IsFaulty (FaultBefore section base)

-- Tables that fill a section have no fault.
abbrev pub FilledWhole : Type 0
FilledWhole = (section : List ℕ) (tables : List AddrTable) → TablesFollow section tables 0 (length section) → ¬ IsFaulty (FaultTables section)

-- Contributions tile a section in one way.
abbrev pub OneTiling : Type 0
OneTiling = (section : List ℕ) (parts others : List Contribution) → ContributionsTile section parts → ContributionsTile section others → parts ≡ others

-- Contributions that tile a section have no fault.
abbrev pub ContributionsWhole : Type 0
ContributionsWhole = (section : List ℕ) (parts : List Contribution) → ContributionsTile section parts → ¬ IsFaulty (FaultContributions section)

-- A list can begin at a place in one contribution at most.
abbrev pub OneHolder : Type 0
OneHolder = (section : List ℕ) (parts : List Contribution) (part other : Contribution) (at : ℕ) → ContributionsTile section parts → Contains parts part → Contains parts other → HoldsList part at → HoldsList other at → part ≡ other

-- An entry's bytes end by themselves: none begins another, and bytes spell one entry.
abbrev pub EntriesEnd : Type 0
EntriesEnd = (list : ListKind) → HasUniqueFronts (SpellsEntry list)

-- No entry begins with the end of a list.
abbrev pub EntriesApart : Type 0
EntriesApart = (list : ListKind) → EndsApart (SpellsEntry list) IsListEnd

-- Bytes that begin with an entry have no fault of an entry.
abbrev pub EntriesWhole : Type 0
EntriesWhole = (list : ListKind) → NeverBoth (SpellsEntry list) (FaultEntry list)

-- Bytes that begin with the end of a list have no fault of an entry.
abbrev pub EndsWhole : Type 0
EndsWhole = (list : ListKind) (bytes : List ℕ) → BeginsWithEnd bytes → ¬ IsFaulty (λ kind place. FaultEntry list kind place bytes)

-- What is read of entries says one list of them.
abbrev pub OneSaying : Type 0
OneSaying = (list : ListKind) (raws : List RawEntry) (entries others : List Entry) → AreSaid list raws entries → AreSaid list raws others → entries ≡ others

-- Entries give one list of bounds in a context.
abbrev pub OneWalk : Type 0
OneWalk = (addr : List ℕ) (context : Context) (entries : List Entry) (bounds others : List Bounds) → Give addr context entries bounds → Give addr context entries others → bounds ≡ others

-- In the words of the standard: an entry that sets no base has the bounds of its item under the base of the closest entry before
-- it that sets one, or under the first base where none does, and stands among the items behind those of the entries before it.
abbrev pub ClosestBase : Type 0
ClosestBase = (addr : List ℕ) (context : Context) (before : List Entry) (entry : Entry) (after : List Entry) (bounds : List Bounds) → Give addr context (before ++ entry ∷ after) bounds → sets_base entry.kind ≡ false → IsItemBehind addr context context.base before entry bounds

-- Entries that give something ask for no index that can't be looked up.
abbrev pub WalksWhole : Type 0
WalksWhole = (list : ListKind) (addr : List ℕ) (context : Context) (raws : List RawEntry) (entries : List Entry) (bounds : List Bounds) → AreSaid list raws entries → Give addr context entries bounds → ¬ IsFaulty (FaultIndexes list context raws)

-- Entries give something, or one of them asks for an index that can't be looked up.
abbrev pub WalksSettled : Type 0
WalksSettled = (list : ListKind) (addr : List ℕ) (context : Context) (raws : List RawEntry) (entries : List Entry) → AreSaid list raws entries → ((bounds : List Bounds) × Give addr context entries bounds) ⊎ IsFaulty (FaultIndexes list context raws)
