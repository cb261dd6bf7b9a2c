use Rattle.std.proofs.Common.{arith}
use Rattle.line_step.proofs.Giving.{some_part, whole_before, odd_before}
use Rattle.line_step.proofs.address.advance_before.Goals as goal

pub returns-then-d-scale-eq0-clause-least : goal.returns-then-d-scale-eq0-clause-least
returns-then-d-scale-eq0-clause-least c =
    whole_before c.args.range c.args.min c.args.d c.from.result c.from-scale.result _ c.reach_bytes.result (omega arith) (omega arith) (some_part c.args.range c.requires.range c.requires.parts) c.from.ensures c.from-scale.ensures (omega arith) c.if-d-scale-eq0.true c.reach_bytes.ensures.least

pub returns-else-d-scale-eq0-clause-least : goal.returns-else-d-scale-eq0-clause-least
returns-else-d-scale-eq0-clause-least c =
    odd_before c.args.range c.args.min c.args.d c.from.result c.from-scale.result _ c.reach_bytes_with_fixed.result c.requires.scale (omega arith) (omega arith) (some_part c.args.range c.requires.range c.requires.parts) c.from.ensures c.from-scale.ensures (omega arith) (λ e. omega (arith, e)) c.reach_bytes_with_fixed.ensures.least
