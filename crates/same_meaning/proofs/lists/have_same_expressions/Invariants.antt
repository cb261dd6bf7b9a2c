use Rattle.std.proofs.Common.{◌-◌, length}
use Rattle.same_meaning.proofs.ListWalks.{AreAtItems}
use Rattle.same_meaning.proofs.lists.have_same_expressions.Given as goal

abbrev pub invariant-loop-i : goal.invariant-loop-i
invariant-loop-i l = AreAtItems l.before l.after l.old.owner l.first l.old.raw l.i l.new.owner l.second l.new.raw l.j

abbrev pub decreases-loop-i : goal.decreases-loop-i
decreases-loop-i l = length l.old.raw - l.i
