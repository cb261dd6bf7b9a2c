use Rattle.tidy_places.specs.Firsts.{IsLeastFound}
use Rattle.value_links.specs.Sections.{debug_lists}
use Rattle.value_links.specs.World.{lists_held}
use Rattle.tidy_numbers.proofs.FoundAmong.{HoldsBelow}
use Rattle.tidy_numbers.proofs.ListPlaces.{IsLongNumbered}
use Rattle.tidy_numbers.proofs.lists.first_in_lists.Given as goal

-- the least place in the lists so far
abbrev pub invariant-loop-number : goal.invariant-loop-number
invariant-loop-number l = IsLeastFound (HoldsBelow (IsLongNumbered l.classes l.kind (debug_lists l.world.image l.kind) (lists_held l.world l.kind)) l.number) l.found
