-- The faults of a file, as conditions on its bytes, in the order in which they decide: passes over the file, of which the
-- first that has a fault refuses it. The place of a fault is an offset in the file.
use Rattle.std.specs.Prelude.{◌≡◌, ◌≤◌, ◌<◌, ◌+◌, ◌⊎◌, ℕ, List, [], ◌∷◌, ◌++◌, length, drop, map}
use Rattle.std.specs.List.{All}
use Rattle.dw_base.specs.declared.fault.Kind.{Kind}
use Rattle.dw_base.specs.declared.fault.Kind.TheVariants.{Companion, Limit, Pointer}
use Rattle.dw_base.specs.declared.fault.Reach.{Reach}
use Rattle.dw_base.specs.declared.fault.Refusal.{Refusal}
use Rattle.dw_base.specs.declared.fault.Refusal.TheVariants.{Refused, NoMemory}
use Rattle.elf_sections.specs.Faults.{ElfFault, NameFault}
use Rattle.line_write.specs.Faults.{LinesFault}
use Rattle.abbrev_tables.specs.Listings.{Listing, IsTableAt}
use Rattle.abbrev_tables.specs.Faults.{FaultTable}
use Rattle.entry_read.specs.declared.head.UnitHead.{UnitHead}
use Rattle.entry_read.specs.declared.unit.Counts.{Counts}
use Rattle.entry_read.specs.Heads.{Follow, Tile}
use Rattle.entry_read.specs.Units.{declarations_of}
use Rattle.entry_read.specs.Faults.{FaultHeads, FaultUnit}
use Rattle.list_model.specs.declared.entry.ListKind.{ListKind}
use Rattle.list_model.specs.Faults.{FaultContributions}
use Rattle.list_model.specs.Faults.{FaultTables as FaultTablesOf}
use Rattle.companions.specs.Faults.{FaultSets}
use Rattle.value_links.specs.Sections.{offset_named, debug_info, debug_abbrev, debug_line, debug_aranges, debug_addr, debug_lists, info_name, abbrev_name, line_name, aranges_name, addr_name, loclists_name, lists_name}
use Rattle.value_links.specs.Reading.{UnitRead, Linkable, unit_heads, counts_of, AreWithin, IsUnitRead, AreUnitsOf}
use Rattle.value_links.specs.Whole.{IsReadToLinks, HasAddrBase}
use Rattle.value_links.specs.LinkFaults.{FaultInUnit}
use Rattle.value_links.specs.ListFaults.{FaultOfKind, FaultOfViews, FaultOfUses}

-- a fault of a section, which counts from the section's first byte, stands at a place of the file
abbrev pub FaultIn : List ℕ → List ℕ → (Kind → ℕ → Type 0) → Kind → ℕ → Type 0
FaultIn file name FaultOf kind place = (inner : ℕ) × (place ≡ offset_named file name + inner) × FaultOf kind inner

-- FIRST PASS: the ELF header, its tables, and the sections that these tell

abbrev pub FaultOfFile : List ℕ → Reach → Kind → ℕ → Type 0
FaultOfFile file reach kind place = ElfFault file reach kind place

-- SECOND PASS: the names of sections

-- A section goes with debug sections and isn't known.
abbrev pub FaultOfNames : List ℕ → Kind → ℕ → Type 0
FaultOfNames file Companion place = NameFault file Companion place
FaultOfNames file kind place = ⊥

-- THIRD PASS: line number programs (DWARF 5 section 6.2)

abbrev pub FaultOfPrograms : List ℕ → Kind → ℕ → Type 0
FaultOfPrograms file kind place = FaultIn file line_name (LinesFault (debug_line file)) kind place

-- FOURTH PASS: headers of units, abbreviation tables, entries, and contributions of lists (DWARF 5 sections 7.5 and 7.28)

-- the head is that of a unit, which stands after units that are the front of .debug_info
abbrev pub IsUnitOf : List ℕ → UnitHead → Type 0
IsUnitOf info head = (before : List UnitHead) × (end : ℕ) × Follow info (before ++ head ∷ []) 0 end

-- A unit's debug_abbrev_offset names no place in .debug_abbrev. It is said of the unit's first byte.
abbrev pub FaultOffset : List ℕ → List ℕ → Kind → ℕ → Type 0
FaultOffset info abbrevs Pointer place = (head : UnitHead) × IsUnitOf info head × (length abbrevs ≤ head.table) × (place ≡ head.at)
FaultOffset info abbrevs kind place = ⊥

-- a unit names the abbreviation table at a place
abbrev pub IsTablePlace : List ℕ → List ℕ → ℕ → Type 0
IsTablePlace info abbrevs at = (head : UnitHead) × IsUnitOf info head × (head.table ≡ at) × (at < length abbrevs)

-- A table that a unit names has a fault.
abbrev pub FaultTables : List ℕ → List ℕ → Kind → ℕ → Type 0
FaultTables info abbrevs kind place = (at : ℕ) × (inner : ℕ) × IsTablePlace info abbrevs at × (place ≡ at + inner) × FaultTable kind inner (drop at abbrevs)

-- A unit has a fault in its entries, by the declarations of its table, and with so many entries and values before it.
pub record FaultEntries (info abbrevs : List ℕ) (before : Counts) (head : UnitHead) (kind : Kind) (place : ℕ) : Type 0 where
  pub table : Listing
  pub stands : IsTableAt abbrevs head.table table
  pub fault : FaultUnit info head (declarations_of table) before kind place

-- The units before an entry keep the limits of all entries and all values, and with the entry a limit is passed.
pub record PassesUnitTotal (info abbrevs : List ℕ) (place : ℕ) : Type 0 where
  pub before : List UnitRead
  pub head : UnitHead
  pub end : ℕ
  pub front : Follow info (unit_heads before ++ head ∷ []) 0 end
  pub each : All (IsUnitRead info abbrevs) before
  pub within : AreWithin before
  pub passes : FaultEntries info abbrevs (counts_of before) head Limit place

-- Some unit has a fault in its entries. Only a limit asks how many entries and values stand before it.
abbrev pub FaultUnits : List ℕ → List ℕ → Kind → ℕ → Type 0
FaultUnits info abbrevs Limit place = PassesUnitTotal info abbrevs place
FaultUnits info abbrevs kind place = (head : UnitHead) × (before : Counts) × IsUnitOf info head × FaultEntries info abbrevs before head kind place

-- a fault of .debug_info
abbrev pub InfoFault : List ℕ → List ℕ → Kind → ℕ → Type 0
InfoFault info abbrevs kind place = FaultHeads info kind place ⊎ (FaultOffset info abbrevs kind place ⊎ FaultUnits info abbrevs kind place)

-- A contribution to a section of lists has a fault (DWARF 5 sections 7.28 and 7.29).
abbrev pub FaultOfParts : List ℕ → Kind → ℕ → Type 0
FaultOfParts file kind place = (of : ListKind) × FaultIn file (lists_name of) (FaultContributions (debug_lists file of)) kind place

abbrev pub FaultOfUnits : List ℕ → Kind → ℕ → Type 0
FaultOfUnits file kind place =
    FaultIn file info_name (InfoFault (debug_info file) (debug_abbrev file)) kind place
    ⊎ (FaultIn file abbrev_name (FaultTables (debug_info file) (debug_abbrev file)) kind place
    ⊎ FaultOfParts file kind place)

-- FIFTH PASS: what values refer to (DWARF 5 section 7.5.5), first bases, expressions, address tables, and sets of address ranges

pub record FaultLinks (file : List ℕ) (reach : Reach) (kind : Kind) (place : ℕ) : Type 0 where
  pub r : Linkable
  pub read : IsReadToLinks file r
  pub u : ℕ
  pub inside : u < length r.units
  pub fault : FaultInUnit r reach u kind place

-- A set of address ranges has a fault, where the units of .debug_info are known.
abbrev pub FaultAranges : List ℕ → Kind → ℕ → Type 0
FaultAranges file kind place = (heads : List UnitHead) × Tile (debug_info file) heads × FaultSets (debug_aranges file) (map (λ (head : UnitHead). head.at) heads) kind place

-- A unit has a DW_AT_addr_base, and after address tables that are the front of .debug_addr another has a fault.
abbrev pub FaultAddresses : List ℕ → Kind → ℕ → Type 0
FaultAddresses file kind place = (units : List UnitRead) × AreUnitsOf file units × HasAddrBase units × FaultTablesOf (debug_addr file) kind place

abbrev pub FaultOfLinks : List ℕ → Reach → Kind → ℕ → Type 0
FaultOfLinks file reach kind place = FaultIn file info_name (FaultLinks file reach) kind place ⊎ (FaultIn file addr_name (FaultAddresses file) kind place ⊎ FaultIn file aranges_name (FaultAranges file) kind place)

-- SIXTH PASS: lists, their view pairs, and the slots that name them (DWARF 5 sections 2.6.2, 2.17.3, 7.25, 7.28 and 7.29)

-- what is read up to the places of lists has a fault
abbrev pub OfLinkable : List ℕ → (Linkable → Kind → ℕ → Type 0) → Kind → ℕ → Type 0
OfLinkable file FaultOf kind place = (r : Linkable) × IsReadToLinks file r × FaultOf r kind place

abbrev pub FaultOfLists : List ℕ → Reach → Kind → ℕ → Type 0
FaultOfLists file reach kind place =
    ((of : ListKind) × FaultIn file (lists_name of) (OfLinkable file (λ r. FaultOfKind r reach of)) kind place)
    ⊎ (FaultIn file loclists_name (OfLinkable file FaultOfViews) kind place
    ⊎ FaultIn file info_name (OfLinkable file FaultOfUses) kind place)

-- THE PASSES

-- the passes by what they look at, in their order
pub data Pass : Type 0 where
  OfFile : Pass
  OfNames : Pass
  OfPrograms : Pass
  OfUnits : Pass
  OfLinks : Pass
  OfLists : Pass

abbrev pub order_of : Pass → ℕ
order_of OfFile = 1
order_of OfNames = 2
order_of OfPrograms = 3
order_of OfUnits = 4
order_of OfLinks = 5
order_of OfLists = 6

-- A pass has a fault of a kind at a place.
abbrev pub FaultOfPass : Pass → List ℕ → Reach → Kind → ℕ → Type 0
FaultOfPass OfFile file reach kind place = FaultOfFile file reach kind place
FaultOfPass OfNames file reach kind place = FaultOfNames file kind place
FaultOfPass OfPrograms file reach kind place = FaultOfPrograms file kind place
FaultOfPass OfUnits file reach kind place = FaultOfUnits file kind place
FaultOfPass OfLinks file reach kind place = FaultOfLinks file reach kind place
FaultOfPass OfLists file reach kind place = FaultOfLists file reach kind place

-- no pass before this one has a fault
abbrev pub IsFirst : Pass → List ℕ → Reach → Type 0
IsFirst pass file reach = (earlier : Pass) (kind : Kind) (place : ℕ) → order_of earlier < order_of pass → FaultOfPass earlier file reach kind place → ⊥

-- The file is faulty: a fault of this kind stands at this place, in the first pass that has any. Of several faults in that
-- pass each may be named.
pub record Faulty (file : List ℕ) (reach : Reach) (kind : Kind) (place : ℕ) : Type 0 where
  pub pass : Pass
  pub fault : FaultOfPass pass file reach kind place
  pub first : IsFirst pass file reach

-- no pass has a fault
abbrev pub IsValid : List ℕ → Reach → Type 0
IsValid file reach = (pass : Pass) (kind : Kind) (place : ℕ) → FaultOfPass pass file reach kind place → ⊥

-- a refusal names a fault of the file, or memory was wanting
abbrev pub NamesFault : List ℕ → Reach → Refusal → Type 0
NamesFault file reach (Refused fault) = Faulty file reach fault.kind fault.place
NamesFault file reach NoMemory = Unit {0}
