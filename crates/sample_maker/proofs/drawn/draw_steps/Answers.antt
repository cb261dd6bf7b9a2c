use Rattle.sample_maker.specs.Draws.{after}
use Rattle.sample_maker.specs.Drawn.{step_drawn}
use Rattle.sample_maker.proofs.Drawing.{one_more_drawn}
use Rattle.sample_maker.proofs.drawn.draw_steps.Goals as goal

pub loop-preserved : goal.loop-preserved
loop-preserved c =
    one_more_drawn step_drawn (after 2) c.args.count c.args.draws.now.state c.loop.steps.items c.push.new.self.items c.loop.counter c.loop.draws.state c.draw_step.new.draws.state c.draw_step.result c.loop-test.true c.loop.invariant c.draw_step.ensures.drawn c.in_ok-push.ensures.items c.draw_step.ensures.state
