-- Numbers of slots by the sums of sizes.
use Rattle.std.proofs.Common.{◌≡◌, ◌≤◌, ◌<◌, ◌+◌, ◌-◌, ℕ, Bool, true, false, IsTrue, ◌↔◌, leb, List, length, get_or, sum, sym, ◌∙◌, subst, arith}
use Rattle.std.specs.Prelude.{slice_range}
use Rattle.std.proofs.lemmas.Bool.{true≢false, leb-true, le-leb}
use Rattle.leb_codec.specs.Layout.{SlotRow, row_at, slot_number, need, size_after, IsSlotNumber, HoldsNumber}
use Rattle.slot_layout.specs.declared.slots.Slot.{Slot}
use Rattle.slot_layout.specs.Rows.{form_of, row_of, rows_of}
use Rattle.slot_layout.specs.inside.Rounds.{AreStarts}
use Rattle.slot_layout.proofs.SumLaws.{sum_range}
use Rattle.check_units.specs.declared.steps.Step.{Step}
use Rattle.check_units.specs.inside.Growing.{IsNeededUnder}
use Rattle.check_units.specs.inside.Checks.{AreSlotsToCheck, AreChecked}
use Rattle.slot_layout.proofs.GrowLaws.{no_slot, row_is, count_rows}

pub slots_of : (rows : List SlotRow) (sizes : List ℕ) → AreChecked rows sizes → AreSlotsToCheck rows
slots_of rows sizes checked = record { few = checked.few; inside = checked.inside }

-- what is known of a slot's row, of the slot
module _ (slots : List Slot) (are : AreSlotsToCheck (rows_of slots)) (i : ℕ) (inside : i < length slots) where
  pub slot_from : (get_or slots i no_slot).from ≤ (get_or slots i no_slot).to
  slot_from =
      let h = (are.inside i (omega (arith, count_rows slots))).0 in rw (row_is slots i inside) at h

  pub slot_to : (get_or slots i no_slot).to ≤ length slots
  slot_to =
      let h = (are.inside i (omega (arith, count_rows slots))).1 in
      let k = rw (row_is slots i inside) at h in
      omega (arith, k, count_rows slots)

-- what is tested of a slot's size is that it holds its number
module _ (slots : List Slot) (are : AreSlotsToCheck (rows_of slots)) (sizes starts : List ℕ) (are_starts : AreStarts sizes starts) (long : length sizes ≡ length slots) (i : ℕ) (inside : i < length slots) where
  abbrev slot : Slot
  slot = get_or slots i no_slot

  abbrev number : ℕ
  number = slot.fixed + (get_or starts slot.to 0 - get_or starts slot.from 0)

  number_is : slot_number sizes (row_of slot) ≡ number
  number_is =
      let up : slot.from ≤ slot.to = slot_from slots are i inside in
      let within : slot.to ≤ length sizes = omega (arith, slot_to slots are i inside, long) in
      omega (arith, sum_range sizes slot.from slot.to up, are_starts.each slot.from (omega arith), are_starts.each slot.to within)

  abbrev IsTested : Type 0
  IsTested = (need (form_of slot.kind) number ≤ get_or sizes i 0) × IsSlotNumber (form_of slot.kind) number

  from_row : (row : SlotRow) → row ≡ row_of slot → (need row.form (slot_number sizes row) ≤ get_or sizes i 0) × IsSlotNumber row.form (slot_number sizes row) → IsTested
  from_row row is h =
      let P : SlotRow → Type 0 = λ r. (need r.form (slot_number sizes r) ≤ get_or sizes i 0) × IsSlotNumber r.form (slot_number sizes r) in
      let Q : ℕ → Type 0 = λ v. (need (form_of slot.kind) v ≤ get_or sizes i 0) × IsSlotNumber (form_of slot.kind) v in
      subst Q number_is (subst P is h)

  to_row : (row : SlotRow) → row ≡ row_of slot → IsTested → (need row.form (slot_number sizes row) ≤ get_or sizes i 0) × IsSlotNumber row.form (slot_number sizes row)
  to_row row is h =
      let P : SlotRow → Type 0 = λ r. (need r.form (slot_number sizes r) ≤ get_or sizes i 0) × IsSlotNumber r.form (slot_number sizes r) in
      let Q : ℕ → Type 0 = λ v. (need (form_of slot.kind) v ≤ get_or sizes i 0) × IsSlotNumber (form_of slot.kind) v in
      subst P (sym is) (subst Q (sym number_is) h)

  pub holds_from : (r : Bool) → r ≡ true → IsTrue r ↔ IsTested → HoldsNumber (rows_of slots) sizes i
  holds_from r is means =
      let both = to_row (row_at (rows_of slots) i) (row_is slots i inside) (means.0 is) in
      record { enough = both.0; narrow = both.1 }

  pub holds_not_from : (r : Bool) → r ≡ false → IsTrue r ↔ IsTested → ¬ HoldsNumber (rows_of slots) sizes i
  holds_not_from r not means holds =
      let is : r ≡ true = means.1 (from_row (row_at (rows_of slots) i) (row_is slots i inside) (holds.enough, holds.narrow)) in
      absurd (true≢false (sym is ∙ not))

-- what is tested of a step is that it is needed
module _ (slots : List Slot) (step : Step) (inside : step.slot < length slots) (sizes : List ℕ) where
  abbrev owner : Slot
  owner = get_or slots step.slot no_slot

  abbrev IsNeededBy : SlotRow → Type 0
  IsNeededBy row = size_after row.form (step.number + 1) ≤ need row.form (slot_number sizes row)

  pub needed_is : (size bytes : ℕ) → size ≡ size_after (form_of owner.kind) (step.number + 1) → bytes ≡ need (form_of owner.kind) (owner.fixed + sum (slice_range sizes owner.from owner.to)) → IsTrue (leb size bytes) ↔ IsNeededUnder (rows_of slots) sizes step
  needed_is size bytes size_is bytes_is =
      let row : row_at (rows_of slots) step.slot ≡ row_of owner = row_is slots step.slot inside in (
        λ is. let less : IsNeededBy (row_of owner) = omega (arith, size_is, bytes_is, leb-true size bytes is) in
            subst IsNeededBy (sym row) less,
        λ needed. let less : IsNeededBy (row_of owner) = subst IsNeededBy row needed in
            le-leb size bytes (omega (arith, size_is, bytes_is, less)),
      )
