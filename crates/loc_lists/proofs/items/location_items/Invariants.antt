use Rattle.loc_lists.proofs.LocationWalks.{IsWalked}
use Rattle.loc_lists.proofs.items.location_items.Given as goal

abbrev pub invariant-loop-entry : goal.invariant-loop-entry
invariant-loop-entry l = IsWalked l.addr l.context l.raw.items l.entry-index l.walk.base l.walk.items.items l.walk.dead
