use Rattle.std.proofs.Common.{arith}
use Rattle.list_least.proofs.Picking.{entry_lacks}
use Rattle.list_least.proofs.pick.item_entry.Goals as goal

pub entry_between-requires-clause-least : goal.entry_between-requires-clause-least
entry_between-requires-clause-least c addr context item are = let p = c.piece_at.ensures.piece addr context item are in p.cost c.args.base c.piece_at.ensures.below (omega arith)

pub returns-clause-lacked : goal.returns-clause-lacked
returns-clause-lacked c =
    let some = c.requires in
    entry_lacks some.0 some.1 c.args.base some.2 c.args.costs.now c.entry_between.result some.3 c.if-costs.false (c.entry_between.ensures some.0 some.1 some.2 some.3)
