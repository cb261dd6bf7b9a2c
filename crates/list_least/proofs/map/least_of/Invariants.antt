use Rattle.std.specs.Prelude.{◌-◌}
use Rattle.list_least.specs.inside.Lookups.{IsNarrowed}
use Rattle.list_least.proofs.map.least_of.Given as goal

abbrev pub invariant-loop-low : goal.invariant-loop-low
invariant-loop-low l = IsNarrowed l.tree l.from l.to l.low l.high l.best

abbrev pub decreases-loop-low : goal.decreases-loop-low
decreases-loop-low l = l.high - l.low
