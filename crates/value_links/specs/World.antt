-- A file that is held with what is read of it, as callers see it.
use Rattle.std.specs.Prelude.{◌≡◌, ◌≤◌, ◌<◌, ℕ, List, [], length, map, slice_index, slice_index_or, Option, Some}
use Rattle.dw_base.specs.declared.fault.Reach.{Reach}
use Rattle.line_machine.specs.declared.head.Head.{Head}
use Rattle.entry_arena.specs.Operations.{HeldOps, no_operations}
use Rattle.entry_read.specs.Units.{HeadAndForest}
use Rattle.entry_read.specs.Expressions.{HasOperations}
use Rattle.list_model.specs.declared.context.Context.{Context}
use Rattle.list_model.specs.declared.contribution.Contribution.{Contribution}
use Rattle.list_model.specs.declared.entry.ListKind.{ListKind}
use Rattle.list_model.specs.declared.entry.ListKind.TheVariants.{Ranges, Locations}
use Rattle.list_model.specs.declared.item.Meaning.{Meaning}
use Rattle.list_model.specs.declared.item.Meaning.TheVariants.{Live, Dead}
use Rattle.list_model.specs.declared.entry.RawEntry.{RawEntry}
use Rattle.range_lists.specs.Ranges.{IsMeaning as SayRanges}
use Rattle.loc_lists.specs.Locations.{IsMeaning as SayLocations}
use Rattle.companions.specs.declared.set.ArangeSet.{ArangeSet}
use Rattle.value_links.specs.declared.units.NamedTable.{NamedTable}
use Rattle.loc_lists.specs.Views.{view_limit}
use Rattle.list_arena.specs.Held.{HeldList, HeldViews}
use Rattle.value_links.specs.Reading.{UnitRead, ListRead, ViewRead, Linkable, Reading, of_kind, lists_of, line_heads, unit_among, list_at, context_at}
use Rattle.value_links.specs.Lists.{IsOwner, IsFrozen, AreWithinReach, pair_total}
use Rattle.value_links.specs.Sections.{debug_addr, debug_lists}
use Rattle.value_links.specs.Whole.{IsReading}
use Rattle.value_links.specs.Debug.{Debug, MeansDebug}
use Rattle.value_links.specs.Faults.{IsValid}

-- the bytes of the file, the headers of its line number programs, its units, the operations of the expressions of each, the
-- abbreviation tables that units name, of each unit the number of its table and the context of its lists, of range lists and of location
-- lists the contributions and the lists that something names, the view pairs of location lists, and the sets of address ranges
pub record World : Type 0 where
  pub image : List ℕ
  pub programs : List Head
  pub units : List HeadAndForest
  pub operations : List HeldOps
  pub tables : List NamedTable
  pub table_of : List ℕ
  pub contexts : List Context
  pub range_parts : List Contribution
  pub ranges : List HeldList
  pub location_parts : List Contribution
  pub locations : List HeldList
  pub views : List HeldViews
  pub sets : List ArangeSet

-- the operations of the unit with a number; past the end there is none, and none stand for them
abbrev pub operations_at : List HeldOps → ℕ → HeldOps
operations_at held u = slice_index_or held u no_operations

-- of each unit the operations of its expressions
pub record HaveOperations (reach : Reach) (units : List HeadAndForest) (held : List HeldOps) : Type 0 where
  pub count : length held ≡ length units
  pub each : (u : ℕ) (d : HeadAndForest) → u < length units → HasOperations reach (slice_index_or units u d).forest (operations_at held u)

abbrev pub head_and_forest : UnitRead → HeadAndForest
head_and_forest unit = record { head = unit.head; forest = unit.forest }

-- the table with a number; past the end there is none, and an empty one stands for it
abbrev pub table_at : List NamedTable → ℕ → NamedTable
table_at tables i = slice_index_or tables i (record { place = 0; table = record { decls = []; specs = []; end = 0 } })

-- the table that the header of a unit names, with its place
abbrev pub named_by : UnitRead → NamedTable
named_by unit = record { place = unit.head.table; table = unit.table }

-- The tables that units name: each once, by rising place, and of each unit the number of the one that its header names.
pub record AreTablesOf (units : List UnitRead) (tables : List NamedTable) (table_of : List ℕ) : Type 0 where
  pub count : length table_of ≡ length units
  pub inside : (u : ℕ) → u < length units → slice_index table_of u < length tables
  pub each : (u : ℕ) → u < length units → table_at tables (slice_index table_of u) ≡ named_by (unit_among units u)
  pub rising : (i j : ℕ) → i < j → j < length tables → (table_at tables i).place < (table_at tables j).place
  pub named : (i : ℕ) → i < length tables → (u : ℕ) × (u < length units) × (slice_index table_of u ≡ i)

-- the contributions and the lists of a kind
abbrev pub contributions_held : World → ListKind → List Contribution
contributions_held world Ranges = world.range_parts
contributions_held world Locations = world.location_parts

-- the contribution with a number; past the end there is none, and an empty one stands for it
abbrev pub contribution_at : World → ListKind → ℕ → Contribution
contribution_at world kind p = slice_index_or (contributions_held world kind) p (record { at = 0; len = 0; slots = 0 })

abbrev pub lists_held : World → ListKind → List HeldList
lists_held world Ranges = world.ranges
lists_held world Locations = world.locations

-- what a list of a kind says in a context
abbrev pub IsMeaningOf : ListKind → List ℕ → Context → List RawEntry → Meaning → Type 0
IsMeaningOf Ranges addresses context raws meaning = SayRanges addresses context raws meaning
IsMeaningOf Locations addresses context raws meaning = SayLocations addresses context raws meaning

-- a list that isn't frozen is held by its items in the context of its owner, and a frozen one as dead
abbrev pub HoldsMeaning : Linkable → ListKind → ListRead → Option ℕ → Meaning → Type 0
HoldsMeaning r kind list owner (Live items) = (¬ IsFrozen r kind list) × ((u : ℕ) × (owner ≡ Some u) × IsMeaningOf kind r.addresses (context_at r u) list.raws (Live items))
HoldsMeaning r kind list owner Dead = IsFrozen r kind list

-- a list as it was read is held
pub record HoldsList (r : Linkable) (kind : ListKind) (list : ListRead) (held : HeldList) : Type 0 where
  pub at : held.at ≡ list.at
  pub part : held.part ≡ list.part
  pub owner : IsOwner r kind list.at held.owner
  pub raws : held.raw ≡ list.raws
  pub meaning : HoldsMeaning r kind list held.owner held.meaning

-- each of the lists is held
pub record HoldLists (r : Linkable) (kind : ListKind) (lists : List ListRead) (held : List HeldList) : Type 0 where
  pub count : length held ≡ length lists
  pub each : (k : ℕ) (d : HeldList) → k < length lists → HoldsList r kind (list_at lists k) (slice_index_or held k d)

-- each run of view pairs is held
abbrev pub HoldViews : List ViewRead → List HeldViews → Type 0
HoldViews views held = views ≡ map (λ (run : HeldViews). record { list = run.list; at = run.at; pairs = run.pairs }) held

-- what is held is the file, and what is read of it. The rows of programs aren't held.
pub record Holds (file : List ℕ) (world : World) (r : Reading) : Type 0 where
  pub image : world.image ≡ file
  pub programs : world.programs ≡ line_heads r.links.programs
  pub units : world.units ≡ map head_and_forest r.links.units
  pub tables : AreTablesOf r.links.units world.tables world.table_of
  pub contexts : world.contexts ≡ r.links.contexts
  pub addresses : r.links.addresses ≡ debug_addr file
  pub sections : (kind : ListKind) → (of_kind r.links kind).section ≡ debug_lists file kind
  pub contributions : (kind : ListKind) → contributions_held world kind ≡ (of_kind r.links kind).parts
  pub lists : (kind : ListKind) → HoldLists r.links kind (lists_of r kind) (lists_held world kind)
  pub views : HoldViews r.views world.views
  pub sets : world.sets ≡ r.sets

-- The world is that of a valid file: all is read, what is read means something, and the world holds it.
pub record IsWorldOf (file : List ℕ) (reach : Reach) (world : World) : Type 0 where
  pub r : Reading
  pub read : IsReading file r
  pub holds : Holds file world r
  pub operations : HaveOperations reach world.units world.operations
  pub within : (kind : ListKind) → AreWithinReach r.links kind reach (lists_of r kind)
  pub few_views : pair_total r.views ≤ view_limit
  pub debug : Debug
  pub means : MeansDebug file r debug
  pub valid : IsValid file reach
