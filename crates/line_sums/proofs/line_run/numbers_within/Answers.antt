use Rattle.std.proofs.Common.{arith}
use Rattle.std.proofs.lemmas.Int.{ints}
use Rattle.line_step.proofs.Powers.{half_of_len, half_small, half_some}
use Rattle.line_sums.proofs.line_run.numbers_within.Goals as goal

pub returns : goal.returns
returns c =
    let is = half_of_len c.args.len (omega arith) (omega arith) in
    let high = half_small c.args.len (omega arith) in
    let low = half_some c.args.len in
    omega (arith, ints, is, high, low)
