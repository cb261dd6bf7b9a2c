use Rattle.tidy_places.specs.Firsts.{IsLeastFound}
use Rattle.tidy_numbers.proofs.WalkedPlaces.{HoldsAmong}
use Rattle.tidy_numbers.proofs.ViewWalks.{IsLongInRunOf}
use Rattle.tidy_numbers.proofs.views.first_in_views.Given as goal

-- the least place in the runs so far
abbrev pub invariant-loop-number : goal.invariant-loop-number
invariant-loop-number l = IsLeastFound (HoldsAmong (IsLongInRunOf l.bytes l.views) l.number) l.first
