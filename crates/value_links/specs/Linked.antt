-- What the values of attributes refer to (DWARF 5 sections 2.3, 7.5.4 and 7.5.5). What a value means is said apart from that, since
-- a list is read only once it is known which values name it.
use Rattle.std.specs.Prelude.{◌≡◌, ◌<◌, ◌+◌, ◌∷◌, ◌++◌, ℕ, List, [], length, filter, Bool, true, false, nat_eq}
use Rattle.form_codec.specs.Forms.{Meaning}
use Rattle.form_codec.specs.Forms.Meaning.{AddressNumber, Expression, InUnit, InSection, SectionPlace, LocationList, RangeList}
use Rattle.entry_arena.specs.declared.entry.Target.{Target}
use Rattle.entry_arena.specs.declared.entry.Target.TheVariants.{Entry as TheEntry, ChainEnd as TheEnd}
use Rattle.entry_arena.specs.Arena.{Arena, IsEntryAt, IsChainEndAt}
use Rattle.list_model.specs.declared.entry.ListKind.{ListKind}
use Rattle.list_model.specs.declared.entry.ListKind.TheVariants.{Ranges, Locations}
use Rattle.list_model.specs.declared.tables.AddrTable.{AddrTable}
use Rattle.list_model.specs.Addresses.{HasBase}
use Rattle.value_links.specs.Attributes.{OffsetClass, offset_class, location}
use Rattle.value_links.specs.Attributes.OffsetClass.{LinePtr, RngList, LocList, RngListsPtr, LocListsPtr, AddrPtr, StrOffsetsPtr, MacPtr, Views, NoOffset}
use Rattle.value_links.specs.Contexts.{low_pc, is_low_pc, NamesTable}
use Rattle.value_links.specs.ListPlaces.{IsListPlace, IsSlot, IsOffsetsAt, IsBaseOf}
use Rattle.value_links.specs.Reading.{ListSection, Linkable, program_at, unit_at, of_kind, part_at}
use Rattle.value_links.specs.Values.{HasValueAt, described_at, root_of}
use Rattle.value_links.specs.Operations.{LinkedOperation, LinksExpression}

-- What a value refers to: itself; what the operations of an expression name; an entry, or the end of the children of an entry, in the
-- unit with a number; the number of a line number program; the list of a kind that begins at a place; a slot of a contribution, which is
-- to name a list; a contribution; the place of a location list and that of view pairs which go with it; or a section offset that is kept
-- as the number that it is. Units, entries, programs, contributions and slots are numbered from 0 in their order.
pub data Linked : Type 0 where
  Itself : Meaning → Linked
  Operates : List LinkedOperation → Linked
  Refers : ℕ → Target → Linked
  Program : ℕ → Linked
  ListAt : ListKind → ℕ → Linked
  SlotAt : ListKind → ℕ → ℕ → Linked
  BaseOf : ListKind → ℕ → Linked
  ViewsAt : ℕ → ℕ → Linked
  Kept : ℕ → Linked

-- REFERENCES

-- an entry, or the code 0 that ends the children of an entry, stands at a place
abbrev pub IsTargetAt : Arena → Target → ℕ → Type 0
IsTargetAt forest (TheEntry id) place = IsEntryAt forest id place
IsTargetAt forest (TheEnd id) place = IsChainEndAt forest id place

-- a local reference counts from the first byte of its unit, and its target stands in that unit
abbrev pub IsLocalTarget : Linkable → ℕ → ℕ → Target → Type 0
IsLocalTarget r u n target = IsTargetAt (unit_at r u).forest target ((unit_at r u).head.at + n)

-- DW_FORM_ref_addr counts from the first byte of .debug_info, and its target stands in any unit
abbrev pub IsSectionTarget : Linkable → ℕ → ℕ → Target → Type 0
IsSectionTarget r n unit target = (unit < length r.units) × IsTargetAt (unit_at r unit).forest target n

-- the entry that type_offset of a type unit names, which counts from the first byte of the unit (DWARF 5 section 7.5.1.3)
abbrev pub IsTypeEntry : Linkable → ℕ → ℕ → Type 0
IsTypeEntry r u id = IsEntryAt (unit_at r u).forest id ((unit_at r u).head.at + (unit_at r u).head.type_at)

-- SECTION OFFSETS

-- the line number program with a number begins at a place of .debug_line
abbrev pub IsProgramAt : Linkable → ℕ → ℕ → Type 0
IsProgramAt r n p = (p < length r.programs) × ((program_at r p).head.at ≡ n)

-- a section offset names the list of a kind at a place
abbrev pub IsListAt : Linkable → ListKind → ℕ → Type 0
IsListAt r kind at = (p : ℕ) × IsListPlace (of_kind r kind) p at

-- an index counts the slots of the contribution that the unit's root names (DW_FORM_rnglistx, DW_FORM_loclistx)
abbrev pub IndexLinks : Linkable → ℕ → ListKind → ℕ → Linked → Type 0
IndexLinks r u kind i linked = (p : ℕ) × IsBaseOf r u kind p × (i < (part_at (of_kind r kind) p).slots) × (linked ≡ SlotAt kind p i)

-- an address table begins where a base says
abbrev pub IsAddressesAt : Linkable → ℕ → Type 0
IsAddressesAt r base = (table : AddrTable) × HasBase r.addresses base table

-- VIEW PAIRS (an extension of GNU's, as this project understands it)

-- whether an attribute is a DW_AT_location with a location list
abbrev pub is_located : ℕ × Meaning → Bool
is_located (name, SectionPlace n) = nat_eq name location
is_located (name, LocationList i) = nat_eq name location
is_located attribute = false

-- The value of such an attribute tells a place: that of its list, or what its slot tells. Whether a list can begin where a slot tells is
-- asked with the lists.
abbrev pub TellsPlace : Linkable → ℕ → Meaning → ℕ → Type 0
TellsPlace r u (SectionPlace n) list = IsListAt r Locations n × (list ≡ n)
TellsPlace r u (LocationList i) list = (p : ℕ) × IsBaseOf r u Locations p × IsSlot r.locations p i list
TellsPlace r u meaning list = ⊥

-- the first such attribute of an entry of the unit `u` tells this place
pub record IsFirstLocated (r : Linkable) (u id list : ℕ) : Type 0 where
  pub before : List (ℕ × Meaning)
  pub attribute : ℕ × Meaning
  pub after : List (ℕ × Meaning)
  pub parts : (described_at (unit_at r u) id).attributes ≡ before ++ attribute ∷ after
  pub first : filter is_located before ≡ []
  pub located : is_located attribute ≡ true
  pub tells : TellsPlace r u attribute.1 list

-- view pairs stand in the contribution of the list with which they go, behind its offsets
abbrev pub AreTogether : ListSection → ℕ → ℕ → Type 0
AreTogether section list n = ((q : ℕ) × IsListPlace section q list) → (p : ℕ) × IsListPlace section p list × IsListPlace section p n

-- an offset in an entry names view pairs: they go with the list of the entry's first DW_AT_location that has one
abbrev pub ViewLinks : Linkable → ℕ → ℕ → ℕ → Linked → Type 0
ViewLinks r u id n linked = (list : ℕ) × IsFirstLocated r u id list × AreTogether r.locations list n × (linked ≡ ViewsAt list n)

-- What a section offset in an entry of a unit refers to, by its class. One of an attribute of no class refers to nothing.
abbrev pub OffsetLinks : Linkable → ℕ → ℕ → OffsetClass → ℕ → Linked → Type 0
OffsetLinks r u id LinePtr n linked = (p : ℕ) × IsProgramAt r n p × (linked ≡ Program p)
OffsetLinks r u id RngList n linked = IsListAt r Ranges n × (linked ≡ ListAt Ranges n)
OffsetLinks r u id LocList n linked = IsListAt r Locations n × (linked ≡ ListAt Locations n)
OffsetLinks r u id RngListsPtr n linked = (p : ℕ) × IsOffsetsAt (of_kind r Ranges) n p × (linked ≡ BaseOf Ranges p)
OffsetLinks r u id LocListsPtr n linked = (p : ℕ) × IsOffsetsAt (of_kind r Locations) n p × (linked ≡ BaseOf Locations p)
OffsetLinks r u id AddrPtr n linked = IsAddressesAt r n × (linked ≡ Kept n)
OffsetLinks r u id StrOffsetsPtr n linked = linked ≡ Kept n
OffsetLinks r u id MacPtr n linked = linked ≡ Kept n
OffsetLinks r u id Views n linked = ViewLinks r u id n linked
OffsetLinks r u id NoOffset n linked = ⊥

-- ATTRIBUTES

-- What the value of an attribute with a name refers to in an entry `id` of the unit `u`, both by their numbers. A value of any
-- form that isn't named here is itself.
abbrev pub Links : Linkable → ℕ → ℕ → ℕ → Meaning → Linked → Type 0
Links r u id name (InUnit n) linked = (target : Target) × IsLocalTarget r u n target × (linked ≡ Refers u target)
Links r u id name (InSection n) linked = (unit : ℕ) × (target : Target) × IsSectionTarget r n unit target × (linked ≡ Refers unit target)
Links r u id name (SectionPlace n) linked = OffsetLinks r u id (offset_class name) n linked
Links r u id name (LocationList i) linked = IndexLinks r u Locations i linked
Links r u id name (RangeList i) linked = IndexLinks r u Ranges i linked
Links r u id name (Expression bytes) linked = (operations : List LinkedOperation) × LinksExpression r u bytes operations × (linked ≡ Operates operations)
Links r u id name meaning linked = linked ≡ Itself meaning

-- the value with a number among those of a unit's entries refers to this
pub record IsLinked (r : Linkable) (u number : ℕ) (linked : Linked) : Type 0 where
  pub id : ℕ
  pub name : ℕ
  pub meaning : Meaning
  pub place : ℕ
  pub stands : HasValueAt (unit_at r u) id number name meaning place
  pub links : Links r u id name meaning linked

-- THE FIRST BASE (section 3.1.1)

-- The first DW_AT_low_pc of the root that is an address or the number of one is this number, and it stands at a place.
pub record IsFirstLow (r : Linkable) (u i place : ℕ) : Type 0 where
  pub number : ℕ
  pub before : List (ℕ × Meaning)
  pub after : List (ℕ × Meaning)
  pub parts : (root_of (unit_at r u)).attributes ≡ before ++ (low_pc, AddressNumber i) ∷ after
  pub first : filter is_low_pc before ≡ []
  pub counted : number ≡ length before
  pub stands : HasValueAt (unit_at r u) 0 number low_pc (AddressNumber i) place

-- the table of the unit has an address with this number
abbrev pub HasAddress : Linkable → ℕ → ℕ → Type 0
HasAddress r u i = (table : AddrTable) × NamesTable r.addresses (root_of (unit_at r u)).attributes table × (i < table.count)
