use Rattle.std.proofs.Common.{arith}
use Rattle.line_step.proofs.Reaches.{reach_fixed}
use Rattle.line_step.proofs.address.reach_bytes_with_fixed.Goals as goal

pub returns-clause-least : goal.returns-clause-least
returns-clause-least c =
    rw c.min.ensures (
    reach_fixed c.args.range c.args.min c.args.distance _ c.reach_bytes.result (omega arith) c.reach_bytes.ensures.least)
