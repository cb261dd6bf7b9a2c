use Rattle.std.proofs.Common.{◌≡◌, ap, arith}
use Rattle.leb_codec.specs.LineCosts.{advance_pc_bytes}
use Rattle.line_step.proofs.Parts.{pc_none, pc_some}
use Rattle.line_step.proofs.address.advance_pc_bytes.Goals as goal

pub returns-then-operand-eq0-clause-bytes : goal.returns-then-operand-eq0-clause-bytes
returns-then-operand-eq0-clause-bytes c =
    let none : c.args.operand ≡ 0 = omega arith in
    omega (arith, ap advance_pc_bytes none, pc_none)

pub returns-else-operand-eq0-clause-bytes : goal.returns-else-operand-eq0-clause-bytes
returns-else-operand-eq0-clause-bytes c = omega (arith, pc_some c.args.operand (omega arith))
