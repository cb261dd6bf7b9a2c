use Rattle.tidy_places.specs.Firsts.{IsLeastFound}
use Rattle.tidy_numbers.specs.inside.Expressions.{IsLongInValue}
use Rattle.tidy_numbers.proofs.FoundAmong.{HoldsBelow}
use Rattle.tidy_numbers.proofs.operations.first_in_values.Given as goal

-- the least place in the expressions of the values so far
abbrev pub invariant-loop-number : goal.invariant-loop-number
invariant-loop-number l = IsLeastFound (HoldsBelow (IsLongInValue l.forest) l.number) l.found
