use Rattle.tidy_places.specs.Firsts.{IsLeastFound}
use Rattle.tidy_numbers.proofs.FoundAmong.{HoldsBelow}
use Rattle.tidy_numbers.proofs.HeldExpressions.{IsLongOf}
use Rattle.tidy_numbers.proofs.operations.first_in_expressions.Given as goal

-- the least place in the expressions of the units so far
abbrev pub invariant-loop-unit : goal.invariant-loop-unit
invariant-loop-unit l = IsLeastFound (HoldsBelow (IsLongOf l.world) l.unit) l.found
