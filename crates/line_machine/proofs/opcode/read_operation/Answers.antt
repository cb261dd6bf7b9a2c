use Rattle.std.proofs.Common.{arith}
use Rattle.line_machine.proofs.ReadingLaws.{fixed_read, uleb_read, wrong_operand}
use Rattle.line_machine.proofs.opcode.read_operation.Goals as goal

pub returns-in-2-clause-read : goal.returns-in-2-clause-read
returns-in-2-clause-read c =
    fixed_read 2 8 c.u64_at.result c.args.at c.args.count c.args.bytes.now c.requires.within (omega arith) (omega arith) c.u64_at.ensures (λ k _. (c.type_inv.bytes k).fits)

pub returns-then-operand-at-clause-read : goal.returns-then-operand-at-clause-read
returns-then-operand-at-clause-read c =
    let operand = c.in_ok-operand-in-4 in
    uleb_read 4 operand.operand.value c.args.at c.args.count operand.operand.end c.args.bytes.now operand.ensures.within.1 operand.ensures.within.0 c.if-operand-at.true (omega arith) operand.ensures.read

pub returns-else-operand-at-clause-fault : goal.returns-else-operand-at-clause-fault
returns-else-operand-at-clause-fault c =
    let operand = c.in_ok-operand-in-4 in
    wrong_operand operand.operand.value c.args.at c.args.count operand.operand.end c.args.bytes.now c.fault_at.result c.fault_at.ensures.kind c.fault_at.ensures.place operand.ensures.within.1 operand.ensures.within.0 c.if-operand-at.false (omega arith) operand.ensures.read
