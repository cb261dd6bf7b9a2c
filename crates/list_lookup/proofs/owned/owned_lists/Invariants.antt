use Rattle.list_lookup.specs.Owned.{AreAllOwned}
use Rattle.list_lookup.proofs.owned.owned_lists.Given as goal

-- among the lists before
abbrev pub invariant-loop-number : goal.invariant-loop-number
invariant-loop-number l = AreAllOwned l.world l.number l.all.items
