use Rattle.sample_maker.specs.Draws.{after}
use Rattle.sample_maker.specs.Drawn.{parameter_drawn}
use Rattle.sample_maker.specs.inside.Drawing.{IsDrawing}
use Rattle.sample_maker.proofs.drawn.draw_parameters.Given as goal

abbrev pub invariant-loop : goal.invariant-loop
invariant-loop l = IsDrawing parameter_drawn (after 2) l.count l.fn.draws.state l.parameters.items l.counter l.draws.state
