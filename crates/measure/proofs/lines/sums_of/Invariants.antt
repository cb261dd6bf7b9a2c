use Rattle.std.proofs.Common.{◌≤◌, ◌-◌, length}
use Rattle.measure.proofs.lines.sums_of.Given as goal

abbrev pub invariant-loop-at : goal.invariant-loop-at
invariant-loop-at l = l.at ≤ length l.section

abbrev pub decreases-loop-at : goal.decreases-loop-at
decreases-loop-at l = length l.section - l.at
