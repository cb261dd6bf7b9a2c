use Rattle.line_step.specs.inside.Search.{IsBestOfParts}
use Rattle.line_step.proofs.row.step_way.Given as goal

abbrev pub invariant-loop-part : goal.invariant-loop-part
invariant-loop-part l = IsBestOfParts l.base l.range l.min l.line l.distance l.part l.best
