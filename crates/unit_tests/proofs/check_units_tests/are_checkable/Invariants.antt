use Rattle.std.proofs.Common.{◌≤◌, ◌<◌, ℕ, length, get_or}
use Rattle.slot_layout.specs.Rows.{form_of, CanHaveSize}
use Rattle.slot_layout.proofs.GrowLaws.{no_slot}
use Rattle.unit_tests.proofs.check_units_tests.are_checkable.Given as goal

abbrev pub invariant-loop-i : goal.invariant-loop-i
invariant-loop-i l = record {
  up : (i : ℕ) → i < l.i → (get_or l.slots i no_slot).from ≤ (get_or l.slots i no_slot).to;
  inside : (i : ℕ) → i < l.i → (get_or l.slots i no_slot).to ≤ length l.slots;
  sized : (i : ℕ) → i < l.i → CanHaveSize (form_of (get_or l.slots i no_slot).kind) (get_or l.sizes i 0);
}
