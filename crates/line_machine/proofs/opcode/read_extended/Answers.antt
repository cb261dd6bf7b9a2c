use Rattle.std.proofs.Common.{arith}
use Rattle.line_machine.proofs.ReadingLaws.{no_length, leaves, operation_fault, extended_read}
use Rattle.line_machine.proofs.opcode.read_extended.Goals as goal

pub returns-then-size-eq0-clause-fault : goal.returns-then-size-eq0-clause-fault
returns-then-size-eq0-clause-fault c =
    λ base. no_length base c.in_ok-size.size.value c.in_ok-size.size.end c.args.rest.now c.fault_at.result c.fault_at.ensures.kind c.fault_at.ensures.place c.requires.filled c.requires.extended c.in_ok-size.ensures.within.0 c.in_ok-size.ensures.within.1 c.in_ok-size.ensures.read c.if-size-eq0.true

pub returns-then-size-rest-clause-fault : goal.returns-then-size-rest-clause-fault
returns-then-size-rest-clause-fault c =
    λ base. leaves base c.in_ok-size.size.value c.in_ok-size.size.end c.args.rest.now c.fault_at-then-size-rest.result c.fault_at-then-size-rest.ensures.kind c.fault_at-then-size-rest.ensures.place c.requires.filled c.requires.extended c.in_ok-size.ensures.within.0 c.in_ok-size.ensures.within.1 c.in_ok-size.ensures.read c.if-size-rest.true

pub returns-in-Err-clause-fault : goal.returns-in-Err-clause-fault
returns-in-Err-clause-fault c =
    λ base. operation_fault base c.in_ok-size.size.value c.in_ok-size.size.end c.args.rest.now c.in-Err.fault.kind c.in-Err.fault.place c.requires.filled c.requires.extended c.in_ok-size.ensures.within.0 (omega arith) (omega arith) c.in_ok-size.ensures.read c.in-Err.ensures.fault

pub returns-in-Ok-clause-read : goal.returns-in-Ok-clause-read
returns-in-Ok-clause-read c =
    λ base. extended_read base c.in_ok-size.size.value c.in_ok-size.size.end c.args.rest.now c.in-Ok.opcode c.requires.filled c.requires.extended c.in_ok-size.ensures.within.0 (omega arith) c.in_ok-size.ensures.read c.in-Ok.ensures.read
