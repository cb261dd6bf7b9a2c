use Rattle.range_lists.proofs.RangeWalks.{IsWalked}
use Rattle.range_lists.proofs.items.range_items.Given as goal

abbrev pub invariant-loop-entry : goal.invariant-loop-entry
invariant-loop-entry l = IsWalked l.addr l.context l.raw.items l.entry-index l.walk.base l.walk.items.items l.walk.dead
