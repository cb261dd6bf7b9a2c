use Rattle.list_least.specs.inside.Lookups.{AreLeaves}
use Rattle.list_least.proofs.map.leaves_of.Given as goal

abbrev pub invariant-loop-i : goal.invariant-loop-i
invariant-loop-i l = AreLeaves l.sorted l.leaves.items l.i
