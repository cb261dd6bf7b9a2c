use Rattle.std.proofs.Common.{arith}
use Rattle.check_units.proofs.DealLaws.{deal_next}
use Rattle.check_units.proofs.dealing.deal.Goals as goal

pub loop-i-preserved : goal.loop-i-preserved
loop-i-preserved c =
    let i = c.loop-i.invariant in
    let next = deal_next c.args.slots.now c.args.sizes.now c.args.count c.loop-i.i c.loop-i.start c.min-start.result c.steps_from_smallest.result c.loop-i.starts.items c.push-in-loop-i.new.self.items c.requires.each_slot (omega arith) i.one_more i.start i.each c.steps_from_smallest.ensures.exact c.min-start.ensures c.in_ok-push-2.ensures.items in
    record { one_more = next.0; start = next.1; each = next.2 }
