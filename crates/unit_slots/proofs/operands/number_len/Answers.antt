use Rattle.unit_slots.proofs.NumberEnds.{number_there, number_begins}
use Rattle.unit_slots.proofs.operands.number_len.Goals as goal

pub unreachable-requires : goal.unreachable-requires
unreachable-requires c = number_there c.args.bytes.now c.args.at c.in-Err.field-0 c.requires.number c.in-Err.ensures.short c.in-Err.ensures.wide

pub returns-clause-size : goal.returns-clause-size
returns-clause-size c =
    number_begins c.args.bytes.now c.args.at c.in-Ok.number.end c.in-Ok.number.value c.in-Ok.ensures.within.0 c.in-Ok.ensures.within.1 c.in-Ok.ensures.read c.in-Ok.ensures.fits
