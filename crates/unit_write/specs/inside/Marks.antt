-- What is counted of a unit for its slots; nothing here is a definition of the format.
use Rattle.std.specs.Prelude.{◌≡◌, ◌≤◌, ◌<◌, ◌+◌, ◌*◌, ◌^◌, ℕ, zero, suc, List, [], ◌∷◌, length, map, sum, take, slice_index, slice_index_or, slice_range}
use Rattle.std.specs.List.{All}
use Rattle.dw_base.specs.declared.fault.Span.{Span}
use Rattle.leb_codec.specs.Layout.{SlotForm, uleb, call}
use Rattle.form_codec.specs.declared.value.Value.{Value}
use Rattle.abbrev_tables.specs.declared.decl.Spec.{Spec}
use Rattle.abbrev_tables.specs.Listings.{Listing}
use Rattle.abbrev_tables.specs.Tables.{Declared}
use Rattle.slot_layout.specs.declared.slots.Slot.{Slot}
use Rattle.slot_layout.specs.declared.slots.SlotKind.{SlotKind}
use Rattle.slot_layout.specs.declared.slots.SlotKind.TheVariants.{Uleb as TheUleb, Call as TheCall}
use Rattle.slot_layout.specs.Rows.{form_of}
use Rattle.expr_ops.specs.Expressions.{Operation}
use Rattle.expr_ops.specs.Shortest.{fixed_length}
use Rattle.expr_ops.specs.Slots.{Aim}
use Rattle.expr_ops.specs.Slots.Aim.{Place, Length}
use Rattle.entry_arena.specs.Arena.{Arena, entry_at, with_values}
use Rattle.entry_arena.specs.Trees.{listed_to}
use Rattle.entry_arena.specs.Walks.{Item, IsWhole}
use Rattle.entry_arena.specs.Walks.Item.{AnEntry, AnEnd}
use Rattle.entry_read.specs.Expressions.{IsExprAt}
use Rattle.entry_read.specs.Slots.{meaning_at, value_aims, slots_before, aim_at}
use Rattle.entry_read.specs.Units.{HeadAndForest}
use Rattle.unit_write.specs.declared.marks.Marks.{Marks}
use Rattle.unit_write.specs.declared.measure.Measured.{Measured}
use Rattle.unit_write.specs.declared.places.Places.{Places}
use Rattle.unit_write.specs.declared.slots.ListSlot.{ListSlot}
use Rattle.unit_write.specs.declared.slots.ListSlot.TheVariants.{Length as ListLength, Place as ListPlace}
use Rattle.unit_write.specs.declared.slots.Spot.{Spot}
use Rattle.unit_write.specs.declared.slots.Spot.TheVariants.{Entry as TheEntry, End as TheEnd, Nothing as NoSpot}
use Rattle.unit_write.specs.Moved.{IsPlacedAt}
use Rattle.unit_write.specs.Slots.{spot_place, spot_at, list_spot}

-- VALUES

-- numbers of 31 bits hold three times the length of each expression
abbrev pub AreShort : Arena → Type 0
AreShort f = (number : ℕ) (span : Span) → IsExprAt f number span → 3 * span.len < 2 ^ 31

-- of the first so many values it is known how many bytes are no slot's, and how many slots each has
pub record IsMeasured (f : Arena) (ops : ℕ → List Operation) (measured : Measured) (count : ℕ) : Type 0 where
  pub fixed_count : length measured.fixed.items ≡ count
  pub slots_count : length measured.slots.items ≡ count
  pub fixed : (k : ℕ) → k < count → slice_index measured.fixed.items k ≡ fixed_length (ops k)
  pub slots : (k : ℕ) → k < count → slice_index measured.slots.items k ≡ length (value_aims (meaning_at f k) (ops k))

abbrev pub AreMeasured : Arena → (ℕ → List Operation) → Measured → Type 0
AreMeasured f ops measured = IsMeasured f ops measured (length f.values)

-- how many slots each value has
pub record AreSlotNumbers (f : Arena) (ops : ℕ → List Operation) (slots : List ℕ) : Type 0 where
  pub count : length slots ≡ length f.values
  pub each : (k : ℕ) → k < length f.values → slice_index slots k ≡ length (value_aims (meaning_at f k) (ops k))

-- to each number the sizes of its slots are added, which are so many and stand one after the other
pub record AreLensWith (fixed slots sizes lens : List ℕ) : Type 0 where
  pub count : length lens ≡ length fixed
  pub each : (k : ℕ) → k < length fixed → slice_index lens k ≡ slice_index fixed k + sum (slice_range sizes (sum (take k slots)) (sum (take (suc k) slots)))

-- ENTRIES

-- how many values the entries before the one with a number have
abbrev pub values_before : Arena → ℕ → ℕ
values_before f zero = 0
values_before f (suc id) = values_before f id + (entry_at f.entries id).count

-- for each entry how many slots stand before it, and last how many all entries have
pub record AreSlotsCounted (f : Arena) (ops : ℕ → List Operation) (counts : List ℕ) : Type 0 where
  pub count : length counts ≡ suc (length f.entries)
  pub each : (id : ℕ) → id ≤ length f.entries → slice_index counts id ≡ slots_before f ops (values_before f id)

-- the counts say of each code 0 of a walk how many entries stand before it, where so many stand before the walk
abbrev pub EndsFollow : ℕ → List Item → List ℕ → Type 0
EndsFollow id [] [] = Unit {0}
EndsFollow id (AnEntry number ∷ items) counts = EndsFollow (suc id) items counts
EndsFollow id (AnEnd ∷ items) (n ∷ counts) = (n ≡ id) × EndsFollow id items counts
EndsFollow _ _ _ = ⊥

-- for each code 0 of a unit how many entries stand before it, whatever walk its entries and codes 0 are, with whatever values
abbrev pub AreEntriesCounted : Arena → List ℕ → Type 0
AreEntriesCounted f counts =
    (values : List Value) (ds : List Declared) (start place : ℕ) (whole : IsWhole f.section ds start (listed_to (with_values f values) place)) → EndsFollow 0 whole.items counts

-- where all stand with no byte for any slot, and what stands before them
pub record AreMarks (unit : HeadAndForest) (table : Listing) (columns : List Spec) (numbers : List ℕ) (ops : ℕ → List Operation) (marks : Marks) : Type 0 where
  pub lens : List ℕ
  pub fixed : (k : ℕ) → k < length unit.forest.values → slice_index lens k ≡ fixed_length (ops k)
  pub start : marks.places.start ≡ 0
  pub placed : IsPlacedAt unit table columns numbers lens 0 marks.places.entries.items marks.places.ends.items marks.places.end
  pub small : marks.places.end < 2 ^ 31
  pub slots : AreSlotsCounted unit.forest ops marks.slots_before.items
  pub entries : AreEntriesCounted unit.forest marks.entries_before.items

-- SIZES

-- counts of slots that stand before something rise, and there are sizes for all that they count
pub record CountSizes (counts sizes : List ℕ) : Type 0 where
  pub rising : (k : ℕ) → suc k < length counts → slice_index counts k ≤ slice_index counts (suc k)
  pub inside : All (λ (count : ℕ). count ≤ length sizes) counts

-- for each count the sum of the sizes of so many slots
abbrev pub sizes_before : List ℕ → List ℕ → List ℕ
sizes_before sizes counts = map (λ (count : ℕ). sum (take count sizes)) counts

-- there are counts for all places, and sizes for all that they count; no place is too large to add to
pub record TakesSizes (marks : Marks) (sizes : List ℕ) : Type 0 where
  pub counts : CountSizes marks.slots_before.items sizes
  pub each : length marks.slots_before.items ≡ suc (length marks.places.entries.items)
  pub each_end : length marks.entries_before.items ≡ length marks.places.ends.items
  pub within : All (λ (count : ℕ). count ≤ length marks.places.entries.items) marks.entries_before.items
  pub small : marks.places.end < 2 ^ 31
  pub entries_small : All (λ (place : ℕ). place < 2 ^ 31) marks.places.entries.items
  pub ends_small : All (λ (place : ℕ). place < 2 ^ 31) marks.places.ends.items

-- the sizes of the slots that stand before the entry with a number
abbrev pub size_before : Marks → List ℕ → ℕ → ℕ
size_before marks sizes id = sum (take (slice_index marks.slots_before.items id) sizes)

-- each place is the mark and the sizes of the slots before it
pub record ArePlacesWith (marks : Marks) (sizes : List ℕ) (places : Places) : Type 0 where
  pub start : places.start ≡ marks.places.start
  pub entries_many : length places.entries.items ≡ length marks.places.entries.items
  pub entries : (id : ℕ) → id < length marks.places.entries.items → slice_index places.entries.items id ≡ slice_index marks.places.entries.items id + size_before marks sizes id
  pub ends_many : length places.ends.items ≡ length marks.places.ends.items
  pub ends : (number : ℕ) → number < length marks.places.ends.items → slice_index places.ends.items number ≡ slice_index marks.places.ends.items number + size_before marks sizes (slice_index marks.entries_before.items number)
  pub end : places.end ≡ marks.places.end + size_before marks sizes (length marks.places.entries.items)

-- SLOTS

-- the spot is one of those of the marks, and there is a count for it
abbrev pub HasSpot : Marks → Spot → Type 0
HasSpot marks (TheEntry id) = (id < length marks.places.entries.items) × (id < length marks.slots_before.items)
HasSpot marks (TheEnd number) = (number < length marks.places.ends.items) × (number < length marks.entries_before.items) × (slice_index marks.entries_before.items number < length marks.slots_before.items)
HasSpot marks NoSpot = ⊥

-- a slot that tells a place has such a spot
abbrev pub HasSpotFor : Marks → Aim → Spot → Type 0
HasSpotFor marks (Place form n) spot = HasSpot marks spot
HasSpotFor marks (Length fixed count) spot = Unit {0}

-- there are spots for slots from the one with a number on
pub record HaveSpots (marks : Marks) (from : ℕ) (aims : List Aim) (spots : List Spot) : Type 0 where
  pub inside : from + length aims ≤ length spots
  pub each : (i : ℕ) → i < length aims → HasSpotFor marks (aim_at aims i) (spot_at spots (from + i))

-- how many entries stand before a spot
abbrev pub entries_before : List ℕ → Spot → ℕ
entries_before before_ends (TheEntry id) = id
entries_before before_ends (TheEnd number) = slice_index before_ends number
entries_before before_ends NoSpot = 0

abbrev pub kind_of : SlotForm → SlotKind
kind_of uleb = TheUleb
kind_of call = TheCall

-- the slot with a number, by what it tells and what it names
abbrev pub slot_for : Marks → Spot → ℕ → Aim → Slot
slot_for marks spot i (Place form n) = record { kind = kind_of form; fixed = spot_place marks.places.entries.items marks.places.ends.items spot; from = 0; to = slice_index marks.slots_before.items (entries_before marks.entries_before.items spot) }
slot_for marks spot i (Length fixed count) = record { kind = TheUleb; fixed = fixed; from = suc i; to = suc i + count }

-- the slots are those by what they tell
pub record AreSlotsMade (marks : Marks) (spots : List Spot) (aims : List Aim) (slots : List Slot) : Type 0 where
  pub count : length slots ≡ length aims
  pub each : (i : ℕ) (d : Slot) → i < length aims → slice_index_or slots i d ≡ slot_for marks (spot_at spots i) i (aim_at aims i)

-- SLOTS OF LISTS

-- what a slot of a list tells; the slot of a place doesn't depend on where the place was, so any number stands for it
abbrev pub list_aim : ListSlot → Aim
list_aim (ListPlace kind spot) = Place (form_of kind) 0
list_aim (ListLength fixed count) = Length fixed count

-- how many slots it counts behind it
abbrev pub list_count : ListSlot → ℕ
list_count (ListPlace kind spot) = 0
list_count (ListLength fixed count) = count

-- where it tells a place, the marks have its spot
abbrev pub HasListSpot : Marks → ListSlot → Type 0
HasListSpot marks slot = HasSpotFor marks (list_aim slot) (list_spot slot)
