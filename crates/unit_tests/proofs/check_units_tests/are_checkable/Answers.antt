use Rattle.std.proofs.Common.{◌≡◌, ◌≤◌, ◌<◌, ℕ, List, length, get_or, arith}
use Rattle.slot_layout.specs.declared.slots.Slot.{Slot}
use Rattle.slot_layout.specs.Rows.{form_of, rows_of, CanHaveSize}
use Rattle.slot_layout.proofs.GrowLaws.{no_slot, row_is, count_rows}
use Rattle.check_units.specs.inside.Checks.{AreChecked}
use Rattle.unit_tests.proofs.check_units_tests.are_checkable.Goals as goal

checked_from : (slots : List Slot) (sizes : List ℕ) → length slots ≤ 1000 → length sizes ≡ length slots → ((i : ℕ) → i < length slots → (get_or slots i no_slot).from ≤ (get_or slots i no_slot).to) → ((i : ℕ) → i < length slots → (get_or slots i no_slot).to ≤ length slots) → ((i : ℕ) → i < length slots → CanHaveSize (form_of (get_or slots i no_slot).kind) (get_or sizes i 0)) → AreChecked (rows_of slots) sizes
checked_from slots sizes few each up inside sized =
    let below : (i : ℕ) → i < length (rows_of slots) → i < length slots = λ i l. omega (arith, count_rows slots) in
    record {
      few = omega (arith, count_rows slots);
      inside = λ i l. rw (row_is slots i (below i l)) (up i (below i l), omega (arith, inside i (below i l), count_rows slots));
      each_slot = omega (arith, each, count_rows slots);
      sized = λ i l. rw (row_is slots i (below i l)) (sized i (below i l));
    }

pub returns : goal.returns
returns c =
    let all = c.loop-i.invariant in
    λ _. checked_from c.args.slots.now c.args.sizes.now (omega arith) (omega arith) (λ i l. all.up i (omega arith)) (λ i l. all.inside i (omega arith)) (λ i l. all.sized i (omega arith))
