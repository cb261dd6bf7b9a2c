use Rattle.std.proofs.Common.{◌-◌, ◌≤◌}
use Rattle.same_meaning.specs.Kept.{DiffersOutside}
use Rattle.same_meaning.proofs.kept.differs_outside.Given as goal

abbrev pub invariant-loop-place : goal.invariant-loop-place
invariant-loop-place l = (d : DiffersOutside l.old l.new) → l.place ≤ d.k

abbrev pub decreases-loop-place : goal.decreases-loop-place
decreases-loop-place l = l.end - l.place
