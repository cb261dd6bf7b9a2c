use Rattle.std.proofs.Common.{◌+◌, ap, ℕ}
use Rattle.sample_maker.specs.Draws.{next}
use Rattle.sample_maker.specs.Drawn.{range_drawn}
use Rattle.sample_maker.proofs.Drawing.{one_more_drawn}
use Rattle.sample_maker.proofs.drawn.draw_ranges.Goals as goal

pub loop-preserved : goal.loop-preserved
loop-preserved c =
    one_more_drawn range_drawn next c.args.count c.args.draws.now.state c.loop.ranges.items c.push.new.self.items c.loop.counter c.loop.draws.state c.below.new.self.state (2 + c.below.result) c.loop-test.true c.loop.invariant (ap (λ (n : ℕ). 2 + n) c.below.ensures.drawn) c.in_ok-push.ensures.items c.below.ensures.state
