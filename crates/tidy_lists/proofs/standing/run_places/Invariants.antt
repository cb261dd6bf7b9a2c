use Rattle.std.proofs.Common.{◌≡◌, length}
use Rattle.tidy_lists.specs.inside.Compared.{OfBoth}
use Rattle.tidy_lists.specs.inside.DuePlaces.{StandRuns}
use Rattle.tidy_lists.proofs.standing.run_places.Given as goal

abbrev pub invariant-loop-number : goal.invariant-loop-number
invariant-loop-number l = (length l.places.items ≡ l.number) × OfBoth l.world l.world (λ r s. StandRuns l.kind s l.number l.places.items)
