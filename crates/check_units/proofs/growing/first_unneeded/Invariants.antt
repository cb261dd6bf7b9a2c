use Rattle.std.proofs.Common.{◌≡◌, ◌≤◌, ◌<◌, ℕ, List, length}
use Rattle.slot_layout.specs.Rows.{rows_of}
use Rattle.check_units.specs.inside.Dealing.{AreInOrder, step_at}
use Rattle.check_units.specs.inside.Growing.{AreJudged, HasTaken}
use Rattle.check_units.proofs.growing.first_unneeded.Given as goal

abbrev pub invariant-loop-step : goal.invariant-loop-step
invariant-loop-step l = record {
  inside : l.taken ≤ length l.steps;
  within : l.first ≤ length l.slots;
  taken : HasTaken (rows_of l.slots) l.steps l.taken l.sums.cells.items;
  low : (p q : ℕ) → p < l.taken → l.step-index ≤ q → q < length l.steps → (step_at l.steps p).rank < (step_at l.steps q).rank;
  judged : (lists : List (List ℕ)) → length lists ≡ length l.slots → AreInOrder lists l.steps → AreJudged (rows_of l.slots) lists l.steps l.step-index l.first;
}
