use Rattle.tidy_places.specs.Firsts.{IsLeastFound}
use Rattle.tidy_numbers.specs.LongLists.{AreLongOperandsOf, HoldsBehindCode}
use Rattle.tidy_numbers.proofs.FoundAmong.{HoldsBelow}
use Rattle.tidy_numbers.proofs.ListPlaces.{raw_at}
use Rattle.tidy_numbers.proofs.lists.first_operand_in.Given as goal

-- the least place in the entries so far
abbrev pub invariant-loop-raw : goal.invariant-loop-raw
invariant-loop-raw l = IsLeastFound (HoldsBelow (λ k. HoldsBehindCode AreLongOperandsOf l.kind l.section (raw_at l.raws k)) l.raw-index) l.found
