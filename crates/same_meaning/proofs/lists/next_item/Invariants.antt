use Rattle.std.proofs.Common.{◌≡◌, ◌≤◌, ◌-◌, length, drop}
use Rattle.loc_lists.specs.Locations.{items_among}
use Rattle.same_meaning.proofs.lists.next_item.Given as goal

abbrev pub invariant-loop-i : goal.invariant-loop-i
invariant-loop-i l = (l.from ≤ l.i) × (l.i ≤ length l.raw) × (items_among (drop l.from l.raw) ≡ items_among (drop l.i l.raw))

abbrev pub decreases-loop-i : goal.decreases-loop-i
decreases-loop-i l = length l.raw - l.i
