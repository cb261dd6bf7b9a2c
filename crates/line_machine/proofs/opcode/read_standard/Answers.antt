use Rattle.std.proofs.Common.{arith}
use Rattle.line_machine.proofs.ReadingLaws.{fixed_read}
use Rattle.line_machine.proofs.opcode.read_standard.Goals as goal

pub returns-else-rest-lt3-clause-read : goal.returns-else-rest-lt3-clause-read
returns-else-rest-lt3-clause-read c = fixed_read 9 2 c.u16_at.result 0 3 c.args.rest.now (omega arith) (omega arith) (omega arith) c.u16_at.ensures (λ k _. (c.type_inv.rest k).fits)
