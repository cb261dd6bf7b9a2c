use Rattle.std.proofs.Common.{◌+◌, ◌∷◌, [], ◌∙◌, ap, map, List}
use Rattle.std.proofs.lemmas.List.{map-append}
use Rattle.sample_maker.specs.declared.drawn.Function.{Function}
use Rattle.sample_maker.specs.Draws.{next}
use Rattle.sample_maker.specs.Drawn.{function_drawn, behind_function, function_of}
use Rattle.sample_maker.proofs.Drawing.{one_more_drawn}
use Rattle.sample_maker.proofs.drawn.draw_unit.Goals as goal

pub loop-preserved : goal.loop-preserved
loop-preserved c =
    let f : Function = c.in_ok-draw_function.field-0 in
    one_more_drawn function_drawn behind_function (1 + c.below-count.result) (next c.args.draws.now.state) (map function_of c.loop.functions.items) (map function_of c.push.new.self.items) c.loop.counter c.loop.draws.state c.draw_function.new.draws.state (function_of f) c.loop-test.true c.loop.invariant c.in_ok-draw_function.ensures.drawn (ap (λ (z : List Function). map function_of z) c.in_ok-push.ensures.items ∙ map-append function_of c.loop.functions.items (f ∷ [])) c.in_ok-draw_function.ensures.state
