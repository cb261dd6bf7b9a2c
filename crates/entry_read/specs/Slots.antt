-- The slots of a unit: its numbers that count bytes of the unit of which some may be those of other slots, in the order of their places
-- (DWARF 5 sections 2.5.1.1 to 2.5.1.7, 7.5.5 and 7.6).
use Rattle.std.specs.Prelude.{◌≡◌, ◌≤◌, ◌<◌, ◌+◌, ℕ, zero, suc, List, [], ◌∷◌, ◌++◌, length, slice_index, slice_index_or, Bool, true, false}
use Rattle.leb_codec.specs.Layout.{SlotForm, uleb, SlotRow, slot_number}
use Rattle.expr_ops.specs.Expressions.{Operation}
use Rattle.expr_ops.specs.Ops.{all_meant}
use Rattle.expr_ops.specs.Slots.{Aim, expression_aims}
use Rattle.expr_ops.specs.Slots.Aim.{Place, Length}
use Rattle.form_codec.specs.Forms.{Meaning}
use Rattle.form_codec.specs.Forms.Meaning.{Expression, InUnit}
use Rattle.form_codec.specs.Values.{meant_in}
use Rattle.entry_arena.specs.Arena.{Arena, entry_at, value_at}
use Rattle.entry_arena.specs.Operations.{HeldOps, ops_of}

-- a reference that counts from the first byte of its unit
abbrev pub is_local : Meaning → Bool
is_local (InUnit n) = true
is_local meaning = false

-- What the slots of a value tell, where these are its operations: a reference within the unit has one slot, and an expression has one
-- for its length and those of its operations.
abbrev pub value_aims : Meaning → List Operation → List Aim
value_aims (InUnit n) os = Place uleb n ∷ []
value_aims (Expression bytes) os = expression_aims os
value_aims meaning os = []

-- those of the first so many of some values, which mean this, and where `ops` has the operations of each
abbrev pub aims_before : (ℕ → Meaning) → (ℕ → List Operation) → ℕ → List Aim
aims_before meanings ops zero = []
aims_before meanings ops (suc k) = aims_before meanings ops k ++ value_aims (meanings k) (ops k)

-- what the values of a unit mean
abbrev pub meaning_at : Arena → ℕ → Meaning
meaning_at f k = meant_in f.section (value_at f.values k)

-- the aims of all slots of a unit
abbrev pub aims_of : Arena → (ℕ → List Operation) → List Aim
aims_of f ops = aims_before (meaning_at f) ops (length f.values)

-- how many slots the first so many values have; so it is also the number of the first slot of the value with this number
abbrev pub slots_before : Arena → (ℕ → List Operation) → ℕ → ℕ
slots_before f ops k = length (aims_before (meaning_at f) ops k)

-- the one with a number; past the end there is none
abbrev pub aim_at : List Aim → ℕ → Aim
aim_at aims i = slice_index_or aims i (Length 0 0)

-- the bytes of an expression, and none of another value
abbrev pub expression_bytes : Meaning → List ℕ
expression_bytes (Expression bytes) = bytes
expression_bytes meaning = []

-- the operations of each value, where they are held
abbrev pub operations_in : Arena → HeldOps → ℕ → List Operation
operations_in f held k = all_meant (expression_bytes (meaning_at f k)) (ops_of held k)

-- Where the entries stand at these places, the first so many values are those of the entries that stand before a place.
pub record AreValuesBefore (f : Arena) (entries : List ℕ) (place count : ℕ) : Type 0 where
  pub few : count ≤ length f.values
  pub before : (id : ℕ) → id < length f.entries → slice_index entries id < place → (entry_at f.entries id).first + (entry_at f.entries id).count ≤ count
  pub behind : (id : ℕ) → id < length f.entries → place ≤ slice_index entries id → count ≤ (entry_at f.entries id).first

-- The number of a row is that of a place, counted from the unit's first byte, and it counts the slots that stand before this place.
pub record IsPlaceRow (f : Arena) (ops : ℕ → List Operation) (entries sizes : List ℕ) (start place : ℕ) (form : SlotForm) (row : SlotRow) : Type 0 where
  pub form_is : row.form ≡ form
  pub from : row.from ≡ 0
  pub values : ℕ
  pub before : AreValuesBefore f entries place values
  pub to : row.to ≡ slots_before f ops values
  pub number : start + slot_number sizes row ≡ place

-- The row is that of the slot `i`, which tells this; where it tells a place, it is that of what stands at `place`. The entries stand at
-- these places, and the unit begins at `start`.
abbrev pub IsRowOf : Arena → (ℕ → List Operation) → List ℕ → List ℕ → ℕ → ℕ → ℕ → Aim → SlotRow → Type 0
IsRowOf f ops entries sizes start place i (Place form n) row = IsPlaceRow f ops entries sizes start place form row
IsRowOf f ops entries sizes start place i (Length fixed count) row = row ≡ record { form = uleb; fixed = fixed; from = suc i; to = suc i + count }
