use Rattle.std.proofs.Common.{arith}
use Rattle.line_step.proofs.Operands.{none_wanted, too_long, least_operand}
use Rattle.line_step.proofs.address.operand_for.Goals as goal

pub returns-then-distance-limit-clause-some : goal.returns-then-distance-limit-clause-some
returns-then-distance-limit-clause-some c = none_wanted c.args.distance c.args.scale c.args.limit (omega arith)

pub returns-then-len-gt9-clause-none : goal.returns-then-len-gt9-clause-none
returns-then-len-gt9-clause-none c _ q f exact most =
    too_long c.args.distance c.args.scale c.args.limit c.len_u-len.result q f (omega arith) c.len_u-len.ensures.least (omega arith) exact most

pub returns-clause-some : goal.returns-clause-some
returns-clause-some c =
    rw c.min.ensures (
    least_operand c.args.distance c.args.scale c.args.limit c.len_u-len.result c.greatest_unsigned.result (omega arith) (omega arith) (omega arith) c.len_u-len.ensures.least c.len_u-len.ensures.some c.greatest_unsigned.ensures)
