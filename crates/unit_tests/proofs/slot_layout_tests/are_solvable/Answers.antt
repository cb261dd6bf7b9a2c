use Rattle.std.proofs.Common.{◌≤◌, ◌<◌, ◌^◌, ℕ, List, length, get_or, arith}
use Rattle.slot_layout.specs.declared.slots.Slot.{Slot}
use Rattle.slot_layout.specs.Rows.{rows_of}
use Rattle.slot_layout.specs.inside.Rounds.{AreSlots}
use Rattle.slot_layout.proofs.GrowLaws.{no_slot, row_is, count_rows}
use Rattle.unit_tests.proofs.slot_layout_tests.are_solvable.Goals as goal

slots_from : (slots : List Slot) → length slots ≤ 16 → ((i : ℕ) → i < length slots → (get_or slots i no_slot).from ≤ (get_or slots i no_slot).to) → ((i : ℕ) → i < length slots → (get_or slots i no_slot).to ≤ length slots) → ((i : ℕ) → i < length slots → (get_or slots i no_slot).fixed < 2 ^ 31) → AreSlots (rows_of slots)
slots_from slots few up inside small =
    let below : (i : ℕ) → i < length (rows_of slots) → i < length slots = λ i l. omega (arith, count_rows slots) in
    record {
      few = omega (arith, count_rows slots);
      inside = λ i l. rw (row_is slots i (below i l)) (up i (below i l), omega (arith, inside i (below i l), count_rows slots));
      small = λ i l. rw (row_is slots i (below i l)) (small i (below i l));
    }

pub returns : goal.returns
returns c =
    let slots = c.args.slots.now in
    let all = c.loop-slot.invariant in
    λ _. slots_from slots (omega (arith, c.if-slots-gt16.false)) (λ i l. all.up i (omega arith)) (λ i l. all.inside i (omega arith)) (λ i l. all.small i (omega arith))
