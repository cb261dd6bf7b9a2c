use Rattle.std.proofs.Common.{◌+◌, ◌-◌, ◌/◌, ◌<◌, length, arith}
use Rattle.list_arena.proofs.FoundLaws.{lists_below}
use Rattle.list_arena.proofs.lists.Lists.find.Goals as goal

pub loop-from-preserved-then-here-at-2 : goal.loop-from-preserved-then-here-at-2
loop-from-preserved-then-here-at-2 c =
    let middle = c.loop-from.from + (c.loop-from.to - c.loop-from.from) / 2 in
    let inside : middle < length c.args.self.now = omega (arith, c.loop-from.invariant.inside) in
    record {
      inside = c.loop-from.invariant.inside;
      below = lists_below c.args.self.now c.args.at middle c.requires inside (λ d. omega (arith, c.at-here.ensures d));
      above = c.loop-from.invariant.above;
    }
