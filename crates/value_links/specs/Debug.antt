-- What the debug sections of a file mean: all that a consumer reads of them, by numbers and without places.
use Rattle.std.specs.Prelude.{◌≡◌, ◌≢◌, ◌<◌, ℕ, List, length, map, Bool, Option, Some, None, slice_index_or}
use Rattle.std.specs.List.{AllZip}
use Rattle.line_write.specs.Meaning.{ProgramMeaning, HaveMeanings}
use Rattle.form_codec.specs.Forms.{Meaning}
use Rattle.entry_arena.specs.Forests.{Described, described_by}
use Rattle.entry_read.specs.Heads.{type_unit}
use Rattle.companions.specs.declared.set.ArangeSet.{ArangeSet}
use Rattle.value_links.specs.Sections.{debug_line}
use Rattle.list_model.specs.declared.entry.ListKind.{ListKind}
use Rattle.list_model.specs.declared.entry.ListKind.TheVariants.{Ranges, Locations}
use Rattle.value_links.specs.Reading.{UnitRead, Linkable, Reading, line_heads, declarations, unit_at, of_kind, part_at}
use Rattle.value_links.specs.ListPlaces.{SlotNames}
use Rattle.value_links.specs.Whole.{IsReading}
use Rattle.value_links.specs.Linked.{IsTypeEntry}
use Rattle.value_links.specs.Resolved.{Resolved, Resolves, ListMeaning, MeansList}

-- an entry: how many it stands below, its tag, whether it has children, and its attributes, each a name and a value
-- (DWARF 5 sections 2.1 to 2.3)
pub record EntryMeaning : Type 0 where
  pub depth : ℕ
  pub tag : ℕ
  pub children : Bool
  pub attributes : List (ℕ × Resolved)

-- a unit: its type, its signature or dwo_id, the number of the entry of its type, and its entries in preorder (DWARF 5
-- sections 3.1 and 7.5.1). The second is 0 where the header has neither, and the third None where it isn't a type unit.
pub record UnitMeaning : Type 0 where
  pub unit_type : ℕ
  pub signature : ℕ
  pub type_entry : Option ℕ
  pub forest : List EntryMeaning

-- a set of address ranges: the number of the unit that it names (DWARF 5 section 6.1.2)
pub record SetMeaning : Type 0 where
  pub unit : ℕ

-- a contribution to a section of lists: of each of its slots the list that it names (sections 7.28 and 7.29)
pub record PartMeaning : Type 0 where
  pub slots : List ListMeaning

-- The debug meaning of a file: its line number programs, its units, its contributions of range lists and of location lists, and its
-- sets of address ranges, each in their order.
pub record Debug : Type 0 where
  pub programs : List ProgramMeaning
  pub units : List UnitMeaning
  pub ranges : List PartMeaning
  pub locations : List PartMeaning
  pub aranges : List SetMeaning

-- the entries of a unit, with their values as they stand
abbrev pub described : UnitRead → List Described
described unit = map (described_by unit.forest.section (declarations unit) unit.forest.values) unit.forest.entries

-- the attribute has its name, and its value is what the one that stands there means
pub record MeansAttribute (r : Reading) (u id : ℕ) (stands : ℕ × Meaning) (attribute : ℕ × Resolved) : Type 0 where
  pub name : attribute.0 ≡ stands.0
  pub value : Resolves r u id stands.0 stands.1 attribute.1

-- the entry is the one that stands there, with its values resolved
pub record MeansEntry (r : Reading) (u id : ℕ) (stands : Described) (entry : EntryMeaning) : Type 0 where
  pub depth : entry.depth ≡ stands.depth
  pub tag : entry.tag ≡ stands.tag
  pub children : entry.children ≡ stands.children
  pub attributes : AllZip (MeansAttribute r u id) stands.attributes entry.attributes

-- a type unit has the entry of its type, and no other unit has one
abbrev pub MeansType : Linkable → ℕ → Option ℕ → Type 0
MeansType r u (Some id) = ((unit_at r u).head.kind ≡ type_unit) × IsTypeEntry r u id
MeansType r u None = (unit_at r u).head.kind ≢ type_unit

-- there are as many entries, and each means the one with its number
pub record MeanEntries (r : Reading) (u : ℕ) (entries : List EntryMeaning) : Type 0 where
  pub count : length entries ≡ length (described (unit_at r.links u))
  pub each : (id : ℕ) (d : Described) (e : EntryMeaning) → id < length entries → MeansEntry r u id (slice_index_or (described (unit_at r.links u)) id d) (slice_index_or entries id e)

-- the unit with a number means this
pub record MeansUnit (r : Reading) (u : ℕ) (unit : UnitMeaning) : Type 0 where
  pub unit_type : unit.unit_type ≡ (unit_at r.links u).head.kind
  pub signature : unit.signature ≡ (unit_at r.links u).head.extra
  pub type_entry : MeansType r.links u unit.type_entry
  pub forest : MeanEntries r u unit.forest

-- there are as many units, and each means the one with its number
pub record MeanUnits (r : Reading) (units : List UnitMeaning) : Type 0 where
  pub count : length units ≡ length r.links.units
  pub each : (u : ℕ) (d : UnitMeaning) → u < length units → MeansUnit r u (slice_index_or units u d)

abbrev pub set_meaning : ArangeSet → SetMeaning
set_meaning set = record { unit = set.unit }

-- a slot of a contribution names a list, and the list means this
abbrev pub MeansSlot : Reading → ListKind → ℕ → ℕ → ListMeaning → Type 0
MeansSlot r kind p i meaning = (at : ℕ) × SlotNames (of_kind r.links kind) p i at × MeansList r kind at meaning

-- the contribution with a number has as many slots, and each means what it names
pub record MeansPart (r : Reading) (kind : ListKind) (p : ℕ) (part : PartMeaning) : Type 0 where
  pub count : length part.slots ≡ (part_at (of_kind r.links kind) p).slots
  pub each : (i : ℕ) (d : ListMeaning) → i < length part.slots → MeansSlot r kind p i (slice_index_or part.slots i d)

-- there are as many contributions of a kind, and each means the one with its number
pub record MeanParts (r : Reading) (kind : ListKind) (parts : List PartMeaning) : Type 0 where
  pub count : length parts ≡ length (of_kind r.links kind).parts
  pub each : (p : ℕ) (d : PartMeaning) → p < length parts → MeansPart r kind p (slice_index_or parts p d)

-- the contributions of a kind
abbrev pub parts_of : Debug → ListKind → List PartMeaning
parts_of debug Ranges = debug.ranges
parts_of debug Locations = debug.locations

-- what is read means this
pub record MeansDebug (file : List ℕ) (r : Reading) (debug : Debug) : Type 0 where
  pub programs : HaveMeanings (debug_line file) (line_heads r.links.programs) debug.programs
  pub units : MeanUnits r debug.units
  pub lists : (kind : ListKind) → MeanParts r kind (parts_of debug kind)
  pub aranges : debug.aranges ≡ map set_meaning r.sets

-- the file means this
abbrev pub Means : List ℕ → Debug → Type 0
Means file debug = (r : Reading) × IsReading file r × MeansDebug file r debug
