use Rattle.entry_read.specs.Slots.{operations_in}
use Rattle.unit_write.specs.inside.Marks.{IsMeasured}
use Rattle.unit_write.proofs.measure.measure.Given as goal

abbrev pub invariant-loop-number : goal.invariant-loop-number
invariant-loop-number l = IsMeasured l.unit.forest (operations_in l.unit.forest l.operations) l.measured l.number
