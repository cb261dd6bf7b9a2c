use Rattle.list_least.specs.inside.Lookups.{HasNoneBefore}
use Rattle.list_least.proofs.map.walked_index.Given as goal

abbrev pub invariant-loop-index : goal.invariant-loop-index
invariant-loop-index l = HasNoneBefore l.addr l.context l.from l.to l.index
