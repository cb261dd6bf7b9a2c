use Rattle.std.specs.Prelude.{map}
use Rattle.list_least.specs.Plans.{bounds_of}
use Rattle.check_lists.specs.inside.Walks.{AreJudged}
use Rattle.check_lists.proofs.walk.walk_back.Given as goal

abbrev pub invariant-loop-i : goal.invariant-loop-i
invariant-loop-i l = AreJudged l.addr l.context (map bounds_of l.items) l.potentials l.i l.first l.tail

abbrev pub decreases-loop-i : goal.decreases-loop-i
decreases-loop-i l = l.i
