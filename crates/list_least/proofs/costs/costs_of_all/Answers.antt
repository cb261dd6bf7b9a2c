use Rattle.list_least.proofs.Pieces.{no_costs, more_costs}
use Rattle.list_least.proofs.costs.costs_of_all.Goals as goal

pub loop-i-init : goal.loop-i-init
loop-i-init c = no_costs c.args.addr.now c.args.context.now c.args.items.now c.new-all.result.items c.new-all.ensures.items

pub loop-i-preserved : goal.loop-i-preserved
loop-i-preserved c = more_costs c.args.addr.now c.args.context.now c.args.items.now c.loop-i.i c.loop-i.all.items c.push.new.self.items c.costs_of.result c.loop-i.invariant c.costs_of.ensures c.in_ok-push.ensures.items
