use Rattle.std.proofs.Common.{◌≡◌, ℕ, subst, arith}
use Rattle.line_step.specs.inside.Search.{IsBestBefore}
use Rattle.line_step.proofs.AddressWays.{next_fixed, skip_fixed}
use Rattle.line_step.proofs.address.better_fixed.Goals as goal

pub returns-then-const_adds-fixed_adds : goal.returns-then-const_adds-fixed_adds
returns-then-const_adds-fixed_adds c =
    skip_fixed c.args.range c.args.min c.args.distance c.args.fixed_adds c.loop-const_adds.const_adds c.loop-const_adds.best (omega arith) (omega arith) c.loop-const_adds.invariant

pub returns : goal.returns
returns c =
    let all : c.loop-const_adds.const_adds ≡ 11 = omega arith in
    next_fixed c.args.range c.args.min c.args.distance c.args.fixed_adds c.loop-const_adds.best (subst (λ (k : ℕ). IsBestBefore c.args.range c.args.min c.args.distance c.args.fixed_adds k c.loop-const_adds.best) all c.loop-const_adds.invariant)
