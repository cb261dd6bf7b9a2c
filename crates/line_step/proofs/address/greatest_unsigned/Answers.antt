use Rattle.std.proofs.Common.{arith}
use Rattle.line_step.proofs.Powers.{greatest_of_len}
use Rattle.line_step.proofs.address.greatest_unsigned.Goals as goal

pub returns : goal.returns
returns c = greatest_of_len c.args.len (omega arith)
