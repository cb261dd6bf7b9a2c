use Rattle.std.proofs.Common.{map}
use Rattle.sample_maker.specs.Draws.{next}
use Rattle.sample_maker.specs.Drawn.{function_drawn, behind_function, function_of}
use Rattle.sample_maker.specs.inside.Drawing.{IsDrawing}
use Rattle.sample_maker.proofs.drawn.draw_unit.Given as goal

abbrev pub invariant-loop : goal.invariant-loop
invariant-loop l = IsDrawing function_drawn behind_function l.count (next l.fn.draws.state) (map function_of l.functions.items) l.counter l.draws.state
