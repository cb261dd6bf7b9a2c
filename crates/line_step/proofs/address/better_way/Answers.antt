use Rattle.std.proofs.Common.{arith}
use Rattle.line_step.proofs.AddressWays.{keep_best, take_best}
use Rattle.line_step.proofs.address.better_way.Goals as goal

pub returns-then-way-best : goal.returns-then-way-best
returns-then-way-best c =
    take_best c.args.range c.args.min c.args.distance c.args.fixed_adds c.args.const_adds c.args.best c.way_with-way.result c.requires.best c.way_with-way.ensures (omega arith)

pub returns-else-way-best : goal.returns-else-way-best
returns-else-way-best c =
    keep_best c.args.range c.args.min c.args.distance c.args.fixed_adds c.args.const_adds c.args.best c.requires.best (λ n form same same'. omega (arith, c.way_with-way.ensures.fewest n form same same'))
