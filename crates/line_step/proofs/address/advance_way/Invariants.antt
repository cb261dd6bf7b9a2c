use Rattle.line_step.specs.inside.Search.{IsBestBefore}
use Rattle.line_step.proofs.address.advance_way.Given as goal

abbrev pub invariant-loop-fixed_adds : goal.invariant-loop-fixed_adds
invariant-loop-fixed_adds l = IsBestBefore l.range l.min l.distance l.fixed_adds 0 l.best
