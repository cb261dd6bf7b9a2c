use Rattle.std.proofs.Common.{arith}
use Rattle.std.proofs.lemmas.Int.{ints}
use Rattle.line_machine.proofs.registers.moved.Goals as goal

pub returns-clause-near : goal.returns-clause-near
returns-clause-near c = λ count near. record { above = omega (arith, ints); below = omega (arith, ints) }
