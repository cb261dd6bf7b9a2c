use Rattle.std.proofs.Common.{◌+◌, ◌-◌, length}
use Rattle.unit_write.proofs.PlacingUnit.{IsPlacing}
use Rattle.unit_write.proofs.places.place_unit.Given as goal

abbrev pub invariant-loop-next : goal.invariant-loop-next
invariant-loop-next l = IsPlacing l.unit l.decls l.specs.items l.numbers.items l.lens.items l.start l.items l.places

abbrev pub decreases-loop-next : goal.decreases-loop-next
decreases-loop-next l = (length l.unit.forest.entries - l.items.entries) + (length l.unit.forest.ends - l.items.ends)
