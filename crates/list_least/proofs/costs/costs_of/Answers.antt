use Rattle.list_least.proofs.Pieces.{whole_costs, between_costs}
use Rattle.list_least.proofs.costs.costs_of.Goals as goal

pub returns-then-not-item : goal.returns-then-not-item
returns-then-not-item c = between_costs c.args.addr.now c.args.context.now c.args.item.now c.costs_between.result c.if-not-item.true c.costs_between.ensures

pub returns : goal.returns
returns c = whole_costs c.args.addr.now c.args.context.now c.args.item.now c.if-not-item.false
