-- What names lists of a kind, as it is gathered and sorted: each naming is the place of a list, and the number of a unit of which an
-- entry names it, or another number where a slot does.
-- Inner functions and proofs alone need what stands here.
use Rattle.std.specs.Prelude.{◌≡◌, ◌≢◌, ◌≤◌, ◌<◌, ◌^◌, ◌-◌, ◌⊎◌, ◌+◌, ℕ, List, length, Option, Some, None, slice_index_or}
use Rattle.std.specs.List.{AllPairs, Contains}
use Rattle.dw_base.specs.declared.fault.Kind.{Kind}
use Rattle.dw_base.specs.declared.fault.Kind.TheVariants.{Pointer}
use Rattle.form_codec.specs.declared.value.Value.{Value}
use Rattle.form_codec.specs.Forms.{Meaning}
use Rattle.form_codec.specs.Forms.Meaning.{SectionPlace, LocationList, RangeList}
use Rattle.form_codec.specs.Values.{meant_in}
use Rattle.abbrev_tables.specs.Listings.{spec_at}
use Rattle.entry_arena.specs.Arena.{value_at}
use Rattle.list_model.specs.declared.entry.ListKind.{ListKind}
use Rattle.list_model.specs.declared.entry.ListKind.TheVariants.{Ranges, Locations}
use Rattle.list_model.specs.Contributions.{offset_place}
use Rattle.value_links.specs.Attributes.{OffsetClass}
use Rattle.value_links.specs.Attributes.OffsetClass.{RngList, LocList}
use Rattle.value_links.specs.Reading.{ListSection, Linkable, unit_at, of_kind, part_at}
use Rattle.value_links.specs.Values.{entry_of, declaration_of}
use Rattle.value_links.specs.ListPlaces.{IsListPlace, IsSlot, SlotNames}
use Rattle.value_links.specs.Linked.{Linked, Links}
use Rattle.value_links.specs.Lists.{LinkNames, IsNamedIn, IsNamedBySlot}

-- what stands for a unit where a slot names a list
abbrev pub slot_number : ℕ
slot_number = 2 ^ 32 - 1

-- the place and the number of the first naming
abbrev pub first_naming : List (ℕ × ℕ) → ℕ × ℕ
first_naming named = slice_index_or named 0 (0, 0)

-- WHAT IS GATHERED

-- The later namings are the earlier ones and those for which this holds.
pub record AreJoined (old new : List (ℕ × ℕ)) (Added : ℕ × ℕ → Type 0) : Type 0 where
  pub from : (naming : ℕ × ℕ) → Contains new naming → Contains old naming ⊎ Added naming
  pub kept : (naming : ℕ × ℕ) → Contains old naming → Contains new naming
  pub added : (naming : ℕ × ℕ) → Added naming → Contains new naming

-- a naming of one of the first slots of a contribution
abbrev pub IsSlotNaming : ListSection → ℕ → ℕ → ℕ × ℕ → Type 0
IsSlotNaming section p n naming = (i : ℕ) × (i < n) × (SlotNames section p i naming.0 × (naming.1 ≡ slot_number))

-- a naming of a slot of one of the first contributions
abbrev pub IsPartNaming : ListSection → ℕ → ℕ × ℕ → Type 0
IsPartNaming section n naming = (p : ℕ) × (p < n) × (IsSlotNaming section p (part_at section p).slots naming)

-- each of the first slots of a contribution names a list
abbrev pub AreSlotsFollowed : ListSection → ℕ → ℕ → Type 0
AreSlotsFollowed section p n = (i : ℕ) → i < n → (at : ℕ) × SlotNames section p i at

-- each slot of the first contributions does
abbrev pub ArePartsFollowed : ListSection → ℕ → Type 0
ArePartsFollowed section n = (p : ℕ) → p < n → AreSlotsFollowed section p (part_at section p).slots

-- a slot tells a place at which no list can begin; it is said of the slot's first byte
abbrev pub FaultSlots : ListSection → Kind → ℕ → Type 0
FaultSlots section Pointer place = (p : ℕ) × (i : ℕ) × (at : ℕ) × IsSlot section p i at × (¬ SlotNames section p i at) × (place ≡ offset_place (part_at section p).at i)
FaultSlots section kind place = ⊥

-- the class of the section offsets that name lists of a kind
abbrev pub class_of : ListKind → OffsetClass
class_of Ranges = RngList
class_of Locations = LocList

-- the index of a list of a kind
abbrev pub index_meaning : ListKind → ℕ → Meaning
index_meaning Ranges i = RangeList i
index_meaning Locations i = LocationList i

-- the index of a list of a kind that a value is, or none
abbrev pub IsIndexIn : ListKind → Value → Option ℕ → Type 0
IsIndexIn kind held (Some i) = (section : List ℕ) → meant_in section held ≡ index_meaning kind i
IsIndexIn kind held None = (section : List ℕ) (i : ℕ) → meant_in section held ≢ index_meaning kind i

-- What a value means can name a list of a kind, as that of some attribute: it is a section offset, or an index of a list of the kind.
abbrev pub CanName : ListKind → Meaning → Type 0
CanName kind meaning = ((place : ℕ) × (meaning ≡ SectionPlace place)) ⊎ ((i : ℕ) × (meaning ≡ index_meaning kind i))

-- the value of an attribute names the list of a kind at a place
abbrev pub ValueNames : Linkable → ListKind → ℕ → ℕ → ℕ → Meaning → ℕ → Type 0
ValueNames r kind u id name meaning at = (linked : Linked) × Links r u id name meaning linked × LinkNames r linked kind at

-- the place of the one that it names, or none
abbrev pub IsPlaceNamed : Linkable → ListKind → ℕ → ℕ → ℕ → Meaning → Option ℕ → Type 0
IsPlaceNamed r kind u id name meaning (Some at) = ValueNames r kind u id name meaning at × ((other : ℕ) → ValueNames r kind u id name meaning other → other ≡ at)
IsPlaceNamed r kind u id name meaning None = (other : ℕ) → ¬ ValueNames r kind u id name meaning other

-- the value of a column of an entry names the list of a kind at a place
abbrev pub ColumnNames : Linkable → ListKind → ℕ → ℕ → ℕ → ℕ → Type 0
ColumnNames r kind u id column at = ValueNames r kind u id (spec_at (declaration_of (unit_at r u) id).columns column).name (meant_in (unit_at r u).forest.section (value_at (unit_at r u).forest.values ((entry_of (unit_at r u) id).first + column))) at

-- a naming of one of the first columns of an entry
abbrev pub IsColumnNaming : Linkable → ListKind → ℕ → ℕ → ℕ → ℕ × ℕ → Type 0
IsColumnNaming r kind u id n naming = (column : ℕ) × (column < n) × (ColumnNames r kind u id column naming.0 × (naming.1 ≡ u))

-- a naming of one of the first entries of a unit
abbrev pub IsEntryNaming : Linkable → ListKind → ℕ → ℕ → ℕ × ℕ → Type 0
IsEntryNaming r kind u n naming = (id : ℕ) × (id < n) × IsColumnNaming r kind u id (entry_of (unit_at r u) id).count naming

-- a naming of one of the first units
abbrev pub IsUnitNaming : Linkable → ListKind → ℕ → ℕ × ℕ → Type 0
IsUnitNaming r kind n naming = (u : ℕ) × (u < n) × IsEntryNaming r kind u (length (unit_at r u).forest.entries) naming

-- A list can begin at the place of a naming, and so many units there are that its number is one of a unit, or that of slots.
pub record IsSomeNaming (section : ListSection) (units : ℕ) (naming : ℕ × ℕ) : Type 0 where
  pub begins : (p : ℕ) × IsListPlace section p naming.0
  pub numbered : (naming.1 < units) ⊎ (naming.1 ≡ slot_number)

-- a naming stands for an entry of a unit that names the list, or for a slot
abbrev pub IsNaming : Linkable → ListKind → ℕ × ℕ → Type 0
IsNaming r kind naming = IsNamedIn r kind naming.0 naming.1 ⊎ (IsNamedBySlot r kind naming.0 × (naming.1 ≡ slot_number))

-- These are all the namings, and each slot names a list.
pub record AreNamings (r : Linkable) (kind : ListKind) (namings : List (ℕ × ℕ)) : Type 0 where
  pub each : (naming : ℕ × ℕ) → Contains namings naming → IsNaming r kind naming
  pub by_entries : (at u : ℕ) → IsNamedIn r kind at u → Contains namings (at, u)
  pub by_slots : (at : ℕ) → IsNamedBySlot r kind at → Contains namings (at, slot_number)
  pub slots : ArePartsFollowed (of_kind r kind) (length (of_kind r kind).parts)

-- WHAT IS SORTED

-- a naming stands before another, or is the same
abbrev pub IsNotBehind : ℕ × ℕ → ℕ × ℕ → Type 0
IsNotBehind x y = (x.0 < y.0) ⊎ ((x.0 ≡ y.0) × (x.1 ≤ y.1))

-- namings by rising place, and of one place by rising number
abbrev pub AreInOrder : List (ℕ × ℕ) → Type 0
AreInOrder namings = AllPairs IsNotBehind namings
