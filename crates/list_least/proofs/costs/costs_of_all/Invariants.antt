use Rattle.list_least.specs.inside.Search.{AreCostsTo}
use Rattle.list_least.proofs.costs.costs_of_all.Given as goal

abbrev pub invariant-loop-i : goal.invariant-loop-i
invariant-loop-i l = AreCostsTo l.addr l.context l.items l.i l.all.items
