use Rattle.std.proofs.Common.{arith}
use Rattle.list_least.specs.Plans.{bounds_of}
use Rattle.list_least.proofs.item_costs.item_cost.Goals as goal

pub returns-clause-least : goal.returns-clause-least
returns-clause-least c = let p = c.piece_at.ensures.piece c.args.addr.now c.args.context.now (bounds_of c.args.item.now) c.costs_of-costs.ensures in p.cost c.args.base c.piece_at.ensures.below (omega arith)
