use Rattle.std.proofs.Common.{arith}
use Rattle.line_step.proofs.Giving.{odd_least}
use Rattle.line_step.proofs.address.advance.Goals as goal

pub returns-else-d-scale-eq0-clause-least : goal.returns-else-d-scale-eq0-clause-least
returns-else-d-scale-eq0-clause-least c =
    odd_least c.args.range c.args.min c.args.d c.from-scale.result c.reach_bytes_with_fixed.result c.requires.scale (omega arith) c.from-scale.ensures (λ e. omega (arith, e)) c.reach_bytes_with_fixed.ensures.least
