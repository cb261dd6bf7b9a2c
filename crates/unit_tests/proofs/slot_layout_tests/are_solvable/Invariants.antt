use Rattle.std.proofs.Common.{◌≤◌, ◌<◌, ◌^◌, ℕ, length, get_or}
use Rattle.slot_layout.proofs.GrowLaws.{no_slot}
use Rattle.unit_tests.proofs.slot_layout_tests.are_solvable.Given as goal

abbrev pub invariant-loop-slot : goal.invariant-loop-slot
invariant-loop-slot l = record {
  up : (i : ℕ) → i < l.slot-index → (get_or l.slots i no_slot).from ≤ (get_or l.slots i no_slot).to;
  inside : (i : ℕ) → i < l.slot-index → (get_or l.slots i no_slot).to ≤ length l.slots;
  small : (i : ℕ) → i < l.slot-index → (get_or l.slots i no_slot).fixed < 2 ^ 31;
}
