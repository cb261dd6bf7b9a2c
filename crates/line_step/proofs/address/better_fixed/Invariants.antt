use Rattle.line_step.specs.inside.Search.{IsBestBefore}
use Rattle.line_step.proofs.address.better_fixed.Given as goal

abbrev pub invariant-loop-const_adds : goal.invariant-loop-const_adds
invariant-loop-const_adds l = IsBestBefore l.range l.min l.distance l.fixed_adds l.const_adds l.best
