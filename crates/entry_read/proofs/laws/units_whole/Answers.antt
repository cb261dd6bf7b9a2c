use Rattle.entry_read.proofs.Whole.{one_unit, unit_whole}
use Rattle.entry_read.proofs.laws.units_whole.Goals as goal

pub returns-clause-unique : goal.returns-clause-unique
returns-clause-unique c = one_unit

pub returns-clause-whole : goal.returns-clause-whole
returns-clause-whole c = unit_whole
