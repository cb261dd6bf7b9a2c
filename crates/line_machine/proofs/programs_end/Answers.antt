use Rattle.line_machine.proofs.Programs.{one_reading, program_whole}
use Rattle.line_machine.proofs.programs_end.Goals as goal

pub returns-clause-unique : goal.returns-clause-unique
returns-clause-unique c = one_reading

pub returns-clause-whole : goal.returns-clause-whole
returns-clause-whole c = program_whole
