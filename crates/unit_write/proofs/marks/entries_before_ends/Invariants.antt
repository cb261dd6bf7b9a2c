use Rattle.std.proofs.Common.{◌+◌, ◌-◌, length}
use Rattle.unit_write.proofs.SlotWalks.{EndsCounted}
use Rattle.unit_write.proofs.marks.entries_before_ends.Given as goal

abbrev pub invariant-loop-next : goal.invariant-loop-next
invariant-loop-next l = EndsCounted l.forest l.items l.counts.items

abbrev pub decreases-loop-next : goal.decreases-loop-next
decreases-loop-next l = (length l.forest.entries - l.items.entries) + (length l.forest.ends - l.items.ends)
