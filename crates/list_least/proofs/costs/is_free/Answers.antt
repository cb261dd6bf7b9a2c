use Rattle.std.proofs.Common.{◌≤◌, ℕ, subst, arith}
use Rattle.leb_codec.specs.LineCosts.{IsLeastCost}
use Rattle.list_model.specs.Costs.{ItemWithin}
use Rattle.list_least.proofs.costs.is_free.Goals as goal

pub returns-then-piece-costs : goal.returns-then-piece-costs
returns-then-piece-costs c h addr context item are base from to =
    let low : c.piece_at-piece.result.bottom ≤ c.args.lowest = grind (arith, h) in
    let p = c.piece_at-piece.ensures.piece addr context item are in
    subst (λ (z : ℕ). IsLeastCost (ItemWithin addr context base item) z) c.if-piece-costs.true (p.cost base (omega (arith, low, from)) to)
