use Rattle.std.proofs.Common.{◌≡◌, sym}
use Rattle.line_machine.specs.Heads.{program_of}
use Rattle.line_machine.specs.Rows.{GivesRows}
use Rattle.line_write.proofs.RowLaws.{are_rows}
use Rattle.check_records.proofs.ProgramRecords.{stands, faultless, scaled, verdict}
use Rattle.check_records.proofs.programs.judge_program.Goals as goal

pub rows_of-requires-clause-stands : goal.rows_of-requires-clause-stands
rows_of-requires-clause-stands c =
    stands c.args.written.now c.requires.world c.args.program c.requires.known c.programs.result.now.items c.index-head.result.now c.section-section.result.now c.programs.ensures c.index-head.ensures c.section-section.ensures

pub rows_of-requires-clause-faultless : goal.rows_of-requires-clause-faultless
rows_of-requires-clause-faultless c =
    faultless c.args.written.now c.requires.world c.args.program c.requires.known c.programs.result.now.items c.index-head.result.now c.section-section.result.now c.programs.ensures c.index-head.ensures c.section-section.ensures

pub accept_program-requires-clause-rows : goal.accept_program-requires-clause-rows
accept_program-requires-clause-rows c =
    let head = c.index-head.result.now in
    let given : GivesRows head (program_of c.section-section.result.now head) c.deref.result.now = rw c.deref.ensures.value c.in_ok-rows.ensures in
    are_rows head (program_of c.section-section.result.now head) c.deref.result.now given

pub accept_program-requires-clause-scale : goal.accept_program-requires-clause-scale
accept_program-requires-clause-scale c =
    scaled c.args.written.now c.requires.world c.args.program c.requires.known c.programs.result.now.items c.index-head.result.now c.section-section.result.now c.programs.ensures c.index-head.ensures c.section-section.ensures

pub returns : goal.returns
returns c =
    let head = c.index-head.result.now in
    let section = c.section-section.result.now in
    let given : GivesRows head (program_of section head) c.deref.result.now = rw c.deref.ensures.value c.in_ok-rows.ensures in
    let are : c.deref-2.result.now ≡ c.args.runs.now.items = c.deref-2.ensures.value in
    verdict c.args.written.now c.requires.world c.args.program c.requires.known c.programs.result.now.items head section c.programs.ensures c.index-head.ensures c.section-section.ensures c.deref.result.now c.args.runs.now.items c.accept_program.result given (rw (sym are) c.accept_program.ensures.accepted) (rw (sym are) c.accept_program.ensures.first)
