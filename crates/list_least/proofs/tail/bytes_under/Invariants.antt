use Rattle.std.specs.Prelude.{◌≤◌, ◌<◌, ◌-◌, length}
use Rattle.list_least.specs.Tails.{run_at}
use Rattle.list_least.proofs.tail.bytes_under.Given as goal

abbrev pub invariant-loop-i : goal.invariant-loop-i
invariant-loop-i l = (l.i < length l.runs) × (l.base ≤ (run_at l.runs l.i).upto)

abbrev pub decreases-loop-i : goal.decreases-loop-i
decreases-loop-i l = length l.runs - l.i
