use Rattle.std.proofs.Common.{arith}
use Rattle.line_params.proofs.numbers.give.Goals as goal

pub returns-clause-each : goal.returns-clause-each
returns-clause-each c = λ place lt. c.loop-place.invariant.each place (omega arith)
