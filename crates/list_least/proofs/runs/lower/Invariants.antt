use Rattle.list_least.specs.inside.Search.{IsLoweredTo}
use Rattle.list_least.proofs.runs.lower.Given as goal

abbrev pub invariant-loop-i : goal.invariant-loop-i
invariant-loop-i l = IsLoweredTo l.by l.old l.i l.new.items
