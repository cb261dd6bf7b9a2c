use Rattle.list_least.specs.inside.Search.{IsNearTo}
use Rattle.list_least.proofs.cheapest.cheapest.Given as goal

abbrev pub invariant-loop-i : goal.invariant-loop-i
invariant-loop-i l = IsNearTo l.addr l.context l.costs l.under l.runs l.before l.i l.best
