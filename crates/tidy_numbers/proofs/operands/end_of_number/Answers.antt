use Rattle.tidy_numbers.proofs.OperandPlaces.{number_there}
use Rattle.tidy_numbers.proofs.operands.end_of_number.Goals as goal

pub unreachable-requires : goal.unreachable-requires
unreachable-requires c = number_there c.args.bytes.now c.args.at c.in-Err.field-0 c.requires.number c.in-Err.ensures.short c.in-Err.ensures.wide
