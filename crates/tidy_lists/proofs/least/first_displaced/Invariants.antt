use Rattle.tidy_places.specs.Firsts.{IsLeastFound}
use Rattle.tidy_lists.specs.inside.LeastPlaces.{IsDisplaced}
use Rattle.tidy_lists.proofs.least.first_displaced.Given as goal

abbrev pub invariant-loop-pair : goal.invariant-loop-pair
invariant-loop-pair l = IsLeastFound (IsDisplaced l.pair-index l.pairs l.stands l.due) l.least
