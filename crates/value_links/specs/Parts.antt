-- What the parts of the reader of a file give.
use Rattle.std.specs.Prelude.{◌≡◌, ◌<◌, ◌^◌, ◌⊎◌, ℕ, List, length, map, slice_index_or, Option, Some, None, IfSome}
use Rattle.dw_base.specs.declared.fault.Kind.{Kind}
use Rattle.dw_base.specs.declared.fault.Fault.{Fault}
use Rattle.dw_base.specs.Refusals.{IsFaultOf}
use Rattle.dw_base.specs.declared.fault.Reach.{Reach}
use Rattle.dw_base.specs.declared.fault.Reach.TheVariants.{Wide}
use Rattle.list_model.specs.declared.entry.ListKind.{ListKind}
use Rattle.list_model.specs.declared.entry.ListKind.TheVariants.{Ranges, Locations}
use Rattle.std.specs.List.{All}
use Rattle.list_model.specs.declared.context.Context.{Context}
use Rattle.list_model.specs.Addresses.{AreAllTables}
use Rattle.list_model.specs.Contributions.{ContributionsTile}
use Rattle.list_model.specs.Items.{HasTable}
use Rattle.value_links.specs.declared.units.Units.{Units}
use Rattle.value_links.specs.declared.parts.Parts.{Parts}
use Rattle.value_links.specs.declared.list_places.Contributions.{Contributions}
use Rattle.value_links.specs.Reading.{UnitRead, ListSection, Linkable, Reading, of_kind, lists_of, AreUnitsIn, line_heads}
use Rattle.value_links.specs.ListPlaces.{IsBaseOf}
use Rattle.value_links.specs.Lists.{AreTold}
use Rattle.value_links.specs.Whole.{IsReadToLinks, IsReading}
use Rattle.value_links.specs.LinkFaults.{FaultInUnit}
use Rattle.value_links.specs.Faults.{InfoFault, FaultTables}
use Rattle.value_links.specs.Laws.{AreLinked}
use Rattle.value_links.specs.Debug.{Debug, MeansDebug}
use Rattle.value_links.specs.World.{head_and_forest, AreTablesOf, HaveOperations}

-- These are units, with the tables that they name.
pub record HoldUnits (read : List UnitRead) (held : Units) : Type 0 where
  pub units : held.units.items ≡ map head_and_forest read
  pub tables : AreTablesOf read held.tables.items held.table_of.items

-- The units of a section are held, by the tables of another.
pub record AreUnitsHeld (info abbrevs : List ℕ) (held : Units) : Type 0 where
  pub read : List UnitRead
  pub units : AreUnitsIn info abbrevs read
  pub holds : HoldUnits read held

-- Units have a fault, in one of these sections, whose first bytes stand at these places of the file.
abbrev pub IsUnitsFault : List ℕ → List ℕ → ℕ → ℕ → Fault → Type 0
IsUnitsFault info abbrevs info_origin abbrev_origin fault = IsFaultOf (InfoFault info abbrevs) info_origin fault ⊎ IsFaultOf (FaultTables info abbrevs) abbrev_origin fault

-- the section of lists that is held
abbrev pub section_held : Contributions → ListSection
section_held held = record { section = held.section.now; parts = held.parts.items }

-- the contribution that the root of a unit names for the indexes of a kind, or none
abbrev pub IsBaseFound : Linkable → ℕ → ListKind → Option ℕ → Type 0
IsBaseFound r u kind (Some p) = IsBaseOf r u kind p
IsBaseFound r u kind None = (p : ℕ) → ¬ IsBaseOf r u kind p

-- of each unit that contribution
pub record HaveBases (r : Linkable) (kind : ListKind) (bases : List (Option ℕ)) : Type 0 where
  pub count : length bases ≡ length r.units
  pub each : (u : ℕ) → u < length r.units → IsBaseFound r u kind (slice_index_or bases u None)

-- the section of lists of a kind, and of each unit the contribution to it that its root names
abbrev pub lists_in : Parts → ListKind → Contributions
lists_in parts Ranges = parts.ranges
lists_in parts Locations = parts.locations

abbrev pub bases_in : Parts → ListKind → List (Option ℕ)
bases_in parts Ranges = parts.range_bases.items
bases_in parts Locations = parts.location_bases.items

-- The contributions and the contexts are held so that each unit's number, each base and each address table can be looked up, whatever
-- file they are of.
pub record HoldsLists (parts : Parts) : Type 0 where
  pub tiled : (kind : ListKind) → ContributionsTile (lists_in parts kind).section.now (lists_in parts kind).parts.items
  pub few : (kind : ListKind) → length (lists_in parts kind).parts.items < 2 ^ 32
  pub bases : (kind : ListKind) → length (bases_in parts kind) ≡ length parts.units.units.items
  pub inside : (kind : ListKind) → All (λ (base : Option ℕ). IfSome base (λ p. p < length (lists_in parts kind).parts.items)) (bases_in parts kind)
  pub contexts : length parts.contexts.items ≡ length parts.units.units.items
  pub operations : length parts.operations.items ≡ length parts.units.units.items
  pub stand : All (λ (context : Context). HasTable parts.addr.now context.table) parts.contexts.items

-- These parts are what is read of the file, and numbers of 32 bits name the programs and the contributions.
pub record HoldsParts (file : List ℕ) (r : Linkable) (parts : Parts) : Type 0 where
  pub read : IsReadToLinks file r
  pub programs : parts.programs.items ≡ line_heads r.programs
  pub units : HoldUnits r.units parts.units
  pub contexts : parts.contexts.items ≡ r.contexts
  pub addresses : parts.addr.now ≡ r.addresses
  pub tables : AreAllTables r.addresses parts.tables.items
  pub lists : (kind : ListKind) → section_held (lists_in parts kind) ≡ of_kind r kind
  pub few_parts : (kind : ListKind) → length (lists_in parts kind).parts.items < 2 ^ 32
  pub bases : (kind : ListKind) → HaveBases r kind (bases_in parts kind)
  pub operations : HaveOperations Wide parts.units.units.items parts.operations.items
  pub few : length parts.programs.items < 2 ^ 32

-- something in a unit refers to what isn't there, or an expression isn't one
abbrev pub LinkFault : Linkable → Reach → Kind → ℕ → Type 0
LinkFault r reach kind place = (u : ℕ) × (u < length r.units) × FaultInUnit r reach u kind place

-- A file of which all is read and told, and all values are linked, means something.
abbrev pub LinkedFilesMean : Type 0
LinkedFilesMean = (file : List ℕ) (r : Reading) → IsReading file r → ((kind : ListKind) → AreTold r.links kind (lists_of r kind)) → AreLinked r.links → (debug : Debug) × MeansDebug file r debug
