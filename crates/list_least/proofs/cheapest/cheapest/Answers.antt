use Rattle.std.proofs.Common.{◌≡◌, ℕ, length, refl, subst, arith}
use Rattle.list_least.specs.inside.Search.{IsNearTo}
use Rattle.list_least.proofs.Near.{near_start, near_far, near_end}
use Rattle.list_least.proofs.cheapest.cheapest.Goals as goal

pub loop-i-init : goal.loop-i-init
loop-i-init c = near_start c.args.addr.now c.args.context.now c.args.costs.now c.args.under c.args.runs.now c.args.before.now c.first_near-from.result c.first_near-from.ensures.free

pub loop-i-preserved : goal.loop-i-preserved
loop-i-preserved c = c.nearer-best.ensures c.args.before.now c.loop-i.invariant

pub returns-clause-near : goal.returns-clause-near
returns-clause-near c =
    let until : c.loop-i.i ≡ c.first_far-until.result = omega (arith, c.loop-i-test.false, c.loop-i.auto.i-end, c.first_far-until.ensures.order) in
    let to = subst (λ (n : ℕ). IsNearTo c.args.addr.now c.args.context.now c.args.costs.now c.args.under c.args.runs.now c.args.before.now n c.loop-i.best) until c.loop-i.invariant in
    near_end c.args.addr.now c.args.context.now c.args.costs.now c.args.under c.args.runs.now c.args.before.now (length c.args.runs.now) c.loop-i.best refl c.requires.top c.requires.down (near_far c.args.addr.now c.args.context.now c.args.costs.now c.args.under c.args.runs.now c.args.before.now c.first_far-until.result c.loop-i.best c.first_far-until.ensures.free to)
