use Rattle.std.proofs.Common.{◌≤◌, length}
use Rattle.measure.proofs.values.with_turn.Given as goal

abbrev pub invariant-loop-index : goal.invariant-loop-index
invariant-loop-index l = l.at ≤ length l.section
