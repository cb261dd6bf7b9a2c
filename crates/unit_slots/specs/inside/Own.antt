-- The sizes of the slots of a unit's values, and how many slots stand before each entry.
use Rattle.std.specs.Prelude.{◌≡◌, ◌≤◌, ◌<◌, ◌+◌, ℕ, suc, List, [], length, sum, take, drop, slice_index, slice_index_or}
use Rattle.abbrev_tables.specs.Listings.{Listing}
use Rattle.leb_codec.specs.Leb.{Uleb}
use Rattle.slot_layout.specs.Rows.{most_slots}
use Rattle.expr_ops.specs.Expressions.{Operation}
use Rattle.entry_arena.specs.Arena.{entry_at}
use Rattle.entry_arena.specs.Operations.{HeldOps}
use Rattle.entry_arena.specs.Trees.{SpellsBetween, ValuesBetween}
use Rattle.entry_read.specs.Slots.{aims_of, aims_before, meaning_at, slots_before, operations_in}
use Rattle.entry_read.specs.Units.{HeadAndForest}
use Rattle.value_links.specs.Reading.{UnitRead}
use Rattle.value_links.specs.Values.{entry_of, declaration_of, values_of}
use Rattle.unit_slots.specs.Standing.{AreValueSizes, AreUnitSizes, all_sizes}
use Rattle.unit_slots.specs.inside.Added.{CanHaveSizes}

-- a unit with the table by which it was read
abbrev pub unit_by : HeadAndForest → Listing → UnitRead
unit_by unit table = record { head = unit.head; table = table; forest = unit.forest }

-- the operations of each of its values, where they are held
abbrev pub operations_by : UnitRead → HeldOps → ℕ → List Operation
operations_by unit held = operations_in unit.forest held

-- the slots of the first so many values of a unit have these sizes
pub record AreSizesBefore (unit : UnitRead) (ops : ℕ → List Operation) (count : ℕ) (sizes : List ℕ) : Type 0 where
  pub each : List (List ℕ)
  pub counted : length each ≡ count
  pub are : (number : ℕ) → number < count → AreValueSizes unit number (slice_index_or each number [])
  pub whole : sizes ≡ all_sizes each
  pub can : CanHaveSizes (aims_before (meaning_at unit.forest) ops count) sizes

-- The first so many values of an entry stand from behind its code up to a place.
pub record StandUpTo (unit : UnitRead) (id count to : ℕ) : Type 0 where
  pub values_at : ℕ
  pub behind : (entry_of unit id).at ≤ values_at
  pub coded : SpellsBetween (Uleb ((declaration_of unit id).code)) unit.forest.section (entry_of unit id).at values_at
  pub valued : ValuesBetween unit.forest.section (take count (declaration_of unit id).columns) (take count (values_of unit id)) values_at to
  pub rest : ValuesBetween unit.forest.section (drop count (declaration_of unit id).columns) (drop count (values_of unit id)) to ((entry_of unit id).at + (entry_of unit id).len)

-- So many slots stand before each entry of a unit, and last it is said how many there are. The slots lie in the values, one behind the other.
pub record AreStarts (unit : HeadAndForest) (ops : ℕ → List Operation) (sizes starts : List ℕ) : Type 0 where
  pub counted : length starts ≡ suc (length unit.forest.entries)
  pub each : (id : ℕ) → id < length unit.forest.entries → slice_index starts id ≡ slots_before unit.forest ops (entry_at unit.forest.entries id).first
  pub last : slice_index starts (length unit.forest.entries) ≡ slots_before unit.forest ops (length unit.forest.values)
  pub whole : length sizes ≡ slots_before unit.forest ops (length unit.forest.values)
  pub room : (id : ℕ) → id < length unit.forest.entries → unit.head.at + sum (take (slice_index starts (suc id)) sizes) ≤ (entry_at unit.forest.entries id).at + (entry_at unit.forest.entries id).len

-- The slots of the values of a unit have these sizes, and so many stand before each entry.
pub record AreOwn (unit : UnitRead) (held : HeldOps) (sizes starts : List ℕ) : Type 0 where
  pub are : AreUnitSizes unit sizes
  pub can : CanHaveSizes (aims_of unit.forest (operations_by unit held)) sizes
  pub few : length sizes ≤ most_slots
  pub begin : AreStarts (record { head = unit.head; forest = unit.forest }) (operations_by unit held) sizes starts
