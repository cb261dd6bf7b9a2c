use Rattle.unit_tests.proofs.HeldUnits.{held_by_itself}
use Rattle.unit_tests.proofs.entry_read_tests.place_in.Goals as goal

pub place_of_value-requires-clause-unit : goal.place_of_value-requires-clause-unit
place_of_value-requires-clause-unit c =
    let read = c.in-Ok-read_unit.ensures in
    held_by_itself _ _ _ c.in-Ok-read_unit.unit read.unit read.head read.section
