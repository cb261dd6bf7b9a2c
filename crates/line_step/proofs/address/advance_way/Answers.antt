use Rattle.std.proofs.Common.{◌≡◌, ℕ, subst, arith}
use Rattle.line_step.specs.inside.Search.{IsBestBefore}
use Rattle.line_step.proofs.AddressWays.{start_best, best_done}
use Rattle.line_step.proofs.address.advance_way.Goals as goal

pub loop-fixed_adds-init : goal.loop-fixed_adds-init
loop-fixed_adds-init c = start_best c.args.range c.args.min c.args.distance

pub returns-clause-way : goal.returns-clause-way
returns-clause-way c =
    let all : c.loop-fixed_adds.fixed_adds ≡ 4 = omega arith in
    best_done c.args.range c.args.min c.args.distance c.loop-fixed_adds.best (subst (λ (j : ℕ). IsBestBefore c.args.range c.args.min c.args.distance j 0 c.loop-fixed_adds.best) all c.loop-fixed_adds.invariant)
