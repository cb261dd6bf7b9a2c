use Rattle.std.proofs.Common.{ℕ, subst, arith}
use Rattle.leb_codec.specs.LineCosts.{IsLeastCost, AdvanceWithin}
use Rattle.line_step.proofs.RowWays.{far_is}
use Rattle.line_sums.proofs.window.address_before.Goals as goal

pub returns-clause-least : goal.returns-clause-least
returns-clause-least c =
    subst (λ (x : ℕ). IsLeastCost (AdvanceWithin c.args.range c.args.min x) c.advance.result) (far_is c.args.distance c.args.part c.args.min c.from.result c.from-2.result c.from.ensures c.from-2.ensures (omega arith) (omega arith)) c.advance.ensures.least
