use Rattle.std.proofs.Common.{◌≤◌, ◌<◌, ◌-◌, ℕ, length}
use Rattle.slot_layout.specs.Rows.{rows_of}
use Rattle.check_units.specs.inside.Dealing.{step_at}
use Rattle.check_units.specs.inside.Growing.{HasTaken}
use Rattle.check_units.proofs.growing.take_steps_below.Given as goal

abbrev pub invariant-loop-taken : goal.invariant-loop-taken
invariant-loop-taken l = record {
  from : l.from ≤ l.taken;
  inside : l.taken ≤ length l.steps;
  taken : HasTaken (rows_of l.slots) l.steps l.taken l.sums.cells.items;
  below : (p : ℕ) → l.from ≤ p → p < l.taken → (step_at l.steps p).rank < l.rank;
}

abbrev pub decreases-loop-taken : goal.decreases-loop-taken
decreases-loop-taken l = length l.steps - l.taken
