use Rattle.line_machine.proofs.Passing.{shifted_fault, add_minus}
use Rattle.line_machine.proofs.place.next_row.Goals as goal

pub returns-in-Err-clause-fault : goal.returns-in-Err-clause-fault
returns-in-Err-clause-fault c =
    let fault = rw add_minus at c.in-Err.ensures.fault in
    shifted_fault c.args.section.now c.args.head.now c.args.start c.args.origin c.in-Err.fault c.shifted.result c.shifted.ensures.kind c.shifted.ensures.place fault
