use Rattle.line_machine.specs.Heads.{program_of}
use Rattle.line_machine.proofs.Programs.{based_of, program_whole}
use Rattle.line_write.proofs.RowLaws.{are_rows}
use Rattle.line_write.proofs.lines.least_program.Goals as goal

pub shrink_program-requires-clause-rows : goal.shrink_program-requires-clause-rows
shrink_program-requires-clause-rows c =
    are_rows c.args.head.now (program_of c.args.section.now c.args.head.now) c.in-Ok.rows.items c.in-Ok.ensures.rows

pub unreachable-requires : goal.unreachable-requires
unreachable-requires c =
    let section = c.args.section.now in
    let head = c.args.head.now in
    let fault = rw c.in-Err-Refused.field-0-is at c.in-Err-Refused.ensures.fault in
    let given = c.requires.given in
    program_whole section head given.0 (based_of section head c.requires.head) given.1 given.2 (c.in-Err-Refused.field-0-0.kind, fault.0, fault.2)
