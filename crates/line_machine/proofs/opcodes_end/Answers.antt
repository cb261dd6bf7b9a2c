use Rattle.line_machine.proofs.Unique.{opcodes_unique}
use Rattle.line_machine.proofs.Sound.{opcodes_whole}
use Rattle.line_machine.proofs.opcodes_end.Goals as goal

pub returns-clause-unique : goal.returns-clause-unique
returns-clause-unique c = opcodes_unique

pub returns-clause-whole : goal.returns-clause-whole
returns-clause-whole c = opcodes_whole
