use Rattle.sample_maker.specs.Draws.{next}
use Rattle.sample_maker.specs.Drawn.{range_drawn}
use Rattle.sample_maker.specs.inside.Drawing.{IsDrawing}
use Rattle.sample_maker.proofs.drawn.draw_ranges.Given as goal

abbrev pub invariant-loop : goal.invariant-loop
invariant-loop l = IsDrawing range_drawn next l.count l.fn.draws.state l.ranges.items l.counter l.draws.state
