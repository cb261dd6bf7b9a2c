-- What the headers of units are compared by.
use Rattle.std.specs.Prelude.{◌≡◌, ◌≢◌, ◌+◌, ℕ, Option, Some, None}
use Rattle.entry_arena.specs.Arena.{IsEntryAt}
use Rattle.entry_read.specs.Heads.{type_unit}
use Rattle.entry_read.specs.Units.{HeadAndForest}
use Rattle.value_links.specs.Debug.{UnitMeaning}

-- the entry with a number stands where type_offset says
abbrev pub IsTypeOf : HeadAndForest → ℕ → Type 0
IsTypeOf unit id = IsEntryAt unit.forest id (unit.head.at + unit.head.type_at)

-- a type unit has an entry of its type
abbrev pub HasTypeEntry : HeadAndForest → Type 0
HasTypeEntry unit = unit.head.kind ≡ type_unit → (id : ℕ) × IsTypeOf unit id

-- the number of the entry of its type of a type unit, and none of another unit
abbrev pub IsTypeEntryOf : HeadAndForest → Option ℕ → Type 0
IsTypeEntryOf unit (Some id) = (unit.head.kind ≡ type_unit) × IsTypeOf unit id
IsTypeEntryOf unit None = unit.head.kind ≢ type_unit

-- the header of a unit that is held means what is said of the unit
pub record MeansHeader (unit : HeadAndForest) (meaning : UnitMeaning) : Type 0 where
  pub unit_type : meaning.unit_type ≡ unit.head.kind
  pub signature : meaning.signature ≡ unit.head.extra
  pub type_entry : IsTypeEntryOf unit meaning.type_entry
