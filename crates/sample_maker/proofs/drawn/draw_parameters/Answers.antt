use Rattle.sample_maker.specs.Draws.{after}
use Rattle.sample_maker.specs.Drawn.{parameter_drawn}
use Rattle.sample_maker.proofs.Drawing.{one_more_drawn}
use Rattle.sample_maker.proofs.drawn.draw_parameters.Goals as goal

pub loop-preserved : goal.loop-preserved
loop-preserved c =
    one_more_drawn parameter_drawn (after 2) c.args.count c.args.draws.now.state c.loop.parameters.items c.push.new.self.items c.loop.counter c.loop.draws.state c.draw_parameter.new.draws.state c.draw_parameter.result c.loop-test.true c.loop.invariant c.draw_parameter.ensures.drawn c.in_ok-push.ensures.items c.draw_parameter.ensures.state
