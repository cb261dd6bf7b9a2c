use Rattle.tidy_places.specs.Firsts.{IsLeastFound}
use Rattle.tidy_numbers.proofs.WalkedPlaces.{HoldsAmong}
use Rattle.tidy_numbers.proofs.TableWalks.{IsLongInTableOf}
use Rattle.tidy_numbers.proofs.tables.first_in_tables.Given as goal

abbrev pub invariant-loop-named : goal.invariant-loop-named
invariant-loop-named l = IsLeastFound (HoldsAmong (IsLongInTableOf l.bytes l.named-items) l.named-index) l.first
