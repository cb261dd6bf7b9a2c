use Rattle.std.proofs.Common.{take}
use Rattle.rewriter.specs.inside.Owned.{AreSlotsOfLists}
use Rattle.rewriter.specs.inside.Placed.{unit_in}
use Rattle.rewriter.proofs.list_slots.list_slots.Given as goal

-- of the lists before
abbrev pub invariant-loop-number : goal.invariant-loop-number
invariant-loop-number l = AreSlotsOfLists l.world (unit_in l.world.units l.unit) (take l.number-index l.lists) l.slots.items
