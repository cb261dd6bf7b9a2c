use Rattle.tidy_places.specs.Firsts.{IsLeastFound}
use Rattle.tidy_places.specs.inside.Chains.{IsOffAmong}
use Rattle.tidy_places.proofs.first_off.Given as goal

abbrev pub invariant-loop-due : goal.invariant-loop-due
invariant-loop-due l = IsLeastFound (IsOffAmong l.after l.sections l.due-index) l.first
