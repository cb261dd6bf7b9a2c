-- When all of a file is read.
use Rattle.std.specs.Prelude.{◌≡◌, ◌<◌, ℕ, List, length}
use Rattle.std.specs.List.{AllZip}
use Rattle.form_codec.specs.Forms.Meaning.{SectionPlace}
use Rattle.list_model.specs.declared.context.Context.{Context}
use Rattle.list_model.specs.declared.tables.AddrTable.{AddrTable}
use Rattle.list_model.specs.declared.entry.ListKind.{ListKind}
use Rattle.list_model.specs.Addresses.{TablesFollow}
use Rattle.list_model.specs.Contributions.{ContributionsTile}
use Rattle.companions.specs.Aranges.{SetsTile}
use Rattle.value_links.specs.Sections.{debug_addr, debug_aranges, debug_lists}
use Rattle.value_links.specs.Attributes.{addr_base}
use Rattle.value_links.specs.Reading.{UnitRead, ListSection, Linkable, Reading, of_kind, lists_of, unit_starts, unit_among, AreProgramsOf, AreUnitsOf}
use Rattle.value_links.specs.Values.{HasValueAt, root_of}
use Rattle.value_links.specs.Contexts.{IsContext}
use Rattle.value_links.specs.Linked.{IsFirstLow, HasAddress}
use Rattle.value_links.specs.Lists.{AreListsOf, AreViewsRead}

-- of each unit the context that its root gives
abbrev pub AreContexts : List ℕ → List UnitRead → List Context → Type 0
AreContexts addresses units contexts = AllZip (λ (unit : UnitRead) (context : Context). IsContext addresses (root_of unit).attributes context) units contexts

-- the contributions are all of a section of lists
pub record ArePartsOf (bytes : List ℕ) (section : ListSection) : Type 0 where
  pub bytes_are : section.section ≡ bytes
  pub tiled : ContributionsTile section.section section.parts

-- all is read that values refer to, up to the places of lists
pub record IsReadToLinks (file : List ℕ) (r : Linkable) : Type 0 where
  pub programs : AreProgramsOf file r.programs
  pub units : AreUnitsOf file r.units
  pub addresses : r.addresses ≡ debug_addr file
  pub contexts : AreContexts r.addresses r.units r.contexts
  pub lists : (kind : ListKind) → ArePartsOf (debug_lists file kind) (of_kind r kind)

-- some entry of a unit has a DW_AT_addr_base that is a section offset
abbrev pub HasAddrBase : List UnitRead → Type 0
HasAddrBase units = (u : ℕ) × (id : ℕ) × (number : ℕ) × (n : ℕ) × (place : ℕ) × (u < length units) × HasValueAt (unit_among units u) id number addr_base (SectionPlace n) place

-- Then address tables are all of .debug_addr, one after the other (section 7.27).
abbrev pub AreAddressesRead : List UnitRead → List ℕ → Type 0
AreAddressesRead units addresses = HasAddrBase units → (tables : List AddrTable) × TablesFollow addresses tables 0 (length addresses)

-- the number of an address that a root gives as the first base is looked up
abbrev pub AreFirstBases : Linkable → Type 0
AreFirstBases r = (u i place : ℕ) → u < length r.units → IsFirstLow r u i place → HasAddress r u i

-- what is looked at besides what values refer to
pub record AreRootsRead (r : Linkable) : Type 0 where
  pub tables : AreAddressesRead r.units r.addresses
  pub bases : AreFirstBases r

-- All is read: what values refer to and what roots give, the lists that something names, their view pairs, and the sets of .debug_aranges, each of
-- which names a unit by where it begins.
pub record IsReading (file : List ℕ) (r : Reading) : Type 0 where
  pub links : IsReadToLinks file r.links
  pub roots : AreRootsRead r.links
  pub lists : (kind : ListKind) → AreListsOf r.links kind (lists_of r kind)
  pub views : AreViewsRead r.links r.location_lists r.views
  pub sets : SetsTile (debug_aranges file) (unit_starts r.links.units) r.sets
