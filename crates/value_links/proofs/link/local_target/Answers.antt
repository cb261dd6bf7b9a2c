use Rattle.std.proofs.Common.{◌+◌}
use Rattle.entry_arena.specs.Order.{IsInOrder}
use Rattle.value_links.proofs.Searching.{past_section, local_found, target_found}
use Rattle.value_links.proofs.link.local_target.Goals as goal

pub returns-then-offset-room : goal.returns-then-offset-room
returns-then-offset-room c =
    past_section c.args.unit.now c.forest-forest.result.now c.head-from.result c.section.result.now c.saturating_sub-room.result c.args.offset c.forest-forest.ensures c.head-from.ensures c.section.ensures c.saturating_sub-room.ensures c.if-offset-room.true

pub returns : goal.returns
returns c = λ (order : IsInOrder c.args.unit.now.forest).
    let place = c.head-from.result.at + c.args.offset in
    local_found c.args.unit.now c.forest-forest.result.now c.head-from.result c.args.offset c.target_at.result c.forest-forest.ensures c.head-from.ensures (target_found c.forest-forest.result.now place c.target_at.result c.target_at.ensures.entry c.target_at.ensures.chain_end c.target_at.ensures.none)
