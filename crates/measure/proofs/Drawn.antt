-- The slots of a drawn unit.
use Rattle.std.proofs.Common.{◌≡◌, ◌≤◌, ◌<◌, ◌^◌, ℕ, List, [], length, get_or, arith}
use Rattle.std.specs.List.{All}
use Rattle.std.proofs.lemmas.List.{length-map, get_or-map}
use Rattle.std.proofs.lemmas.List.Elements.{All-get_or}
use Rattle.leb_codec.specs.Layout.{row_at}
use Rattle.slot_layout.specs.declared.slots.Slot.{Slot}
use Rattle.slot_layout.specs.declared.slots.SlotKind.TheVariants.{Uleb}
use Rattle.slot_layout.specs.Rows.{row_of, rows_of, HasRangesInside, HasSmallFixed}

-- a slot of a unit of so many
pub record IsDrawn (count : ℕ) (slot : Slot) : Type 0 where
  pub up : slot.from ≤ slot.to
  pub inside : slot.to ≤ count
  pub small : slot.fixed < 2 ^ 31

no_slot : Slot
no_slot = record { kind = Uleb; fixed = 0; from = 0; to = 0 }

row_is : (slots : List Slot) (i : ℕ) → i < length slots → row_at (rows_of slots) i ≡ row_of (get_or slots i no_slot)
row_is slots i inside = get_or-map row_of slots i no_slot (row_at [] 0) inside

below_rows : (slots : List Slot) (i : ℕ) → i < length (rows_of slots) → i < length slots
below_rows slots i below = omega (arith, below, length-map slots row_of)

drawn_at : (count : ℕ) (slots : List Slot) → All (IsDrawn count) slots → (i : ℕ) → i < length slots → IsDrawn count (get_or slots i no_slot)
drawn_at count slots all i inside = All-get_or (IsDrawn count) slots i no_slot inside all

pub drawn_ranges : (count : ℕ) (slots : List Slot) → length slots ≡ count → All (IsDrawn count) slots → HasRangesInside (rows_of slots)
drawn_ranges count slots long all i below =
    let inside = below_rows slots i below in
    let drawn = drawn_at count slots all i inside in
    rw (row_is slots i inside) (drawn.up, omega (arith, drawn.inside, long, length-map slots row_of))

pub drawn_small : (count : ℕ) (slots : List Slot) → All (IsDrawn count) slots → HasSmallFixed (rows_of slots)
drawn_small count slots all i below =
    let inside = below_rows slots i below in
    rw (row_is slots i inside) (drawn_at count slots all i inside).small
