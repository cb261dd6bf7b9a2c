use Rattle.sample_maker.specs.Draws.{after}
use Rattle.sample_maker.specs.Drawn.{step_drawn}
use Rattle.sample_maker.specs.inside.Drawing.{IsDrawing}
use Rattle.sample_maker.proofs.drawn.draw_steps.Given as goal

abbrev pub invariant-loop : goal.invariant-loop
invariant-loop l = IsDrawing step_drawn (after 2) l.count l.fn.draws.state l.steps.items l.counter l.draws.state
