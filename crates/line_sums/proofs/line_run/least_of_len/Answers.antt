use Rattle.std.proofs.Common.{◌-◌, rules, arith}
use Rattle.std.specs.Prelude.{FitsSigned}
use Rattle.std.specs.Int.{w64}
use Rattle.std.proofs.lemmas.Int.{ints, to_z-of_z}
use Rattle.line_step.proofs.Powers.{half_small}
use Rattle.line_sums.proofs.LineRuns.{least_of_one, least_of_more}
use Rattle.line_sums.proofs.line_run.least_of_len.Goals as goal

pub returns-then-len-eq1-clause-is : goal.returns-then-len-eq1-clause-is
returns-then-len-eq1-clause-is c = rw c.if-len-eq1.true least_of_one

pub returns-else-len-eq1-clause-is : goal.returns-else-len-eq1-clause-is
returns-else-len-eq1-clause-is c =
    let fits : FitsSigned w64 c.numbers_within.result = search rules in
    rw (to_z-of_z w64 c.numbers_within.result fits) (least_of_more c.args.len c.numbers_within.result (omega arith) c.numbers_within.ensures)

pub returns-else-len-eq1-clause-few : goal.returns-else-len-eq1-clause-few
returns-else-len-eq1-clause-few c =
    omega (arith, ints, half_small (c.args.len - 1) (omega arith), c.numbers_within.ensures)
