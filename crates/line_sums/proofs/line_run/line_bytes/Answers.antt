use Rattle.std.proofs.Common.{◌≡◌, arith}
use Rattle.std.specs.Prelude.{pos}
use Rattle.std.proofs.lemmas.Int.{ints}
use Rattle.line_step.proofs.Parts.{line_bytes_none, line_bytes_some}
use Rattle.line_step.proofs.Remainders.{near_len}
use Rattle.line_sums.proofs.line_run.line_bytes.Goals as goal

pub returns-then-operand-eq0-clause-bytes : goal.returns-then-operand-eq0-clause-bytes
returns-then-operand-eq0-clause-bytes c =
    let none : c.args.operand ≡ pos 0 = omega (arith, ints) in
    line_bytes_none c.args.operand none

pub returns-else-operand-eq0-clause-bytes : goal.returns-else-operand-eq0-clause-bytes
returns-else-operand-eq0-clause-bytes c =
    line_bytes_some c.args.operand _ c.len_s.result (omega (arith, ints)) c.len_s.ensures.least (λ none. omega (arith, ints, none))

pub returns-else-operand-eq0-clause-few : goal.returns-else-operand-eq0-clause-few
returns-else-operand-eq0-clause-few c =
    let few = near_len _ c.len_s.result c.len_s.ensures.least (omega (arith, ints)) (omega (arith, ints)) in
    omega (arith, few)
