use Rattle.std.proofs.Common.{◌≡◌, map, take}
use Rattle.value_links.specs.World.{lists_held}
use Rattle.tidy_lists.specs.inside.DuePlaces.{standing}
use Rattle.tidy_lists.proofs.standing.list_places.Given as goal

abbrev pub invariant-loop-number : goal.invariant-loop-number
invariant-loop-number l = l.places.items ≡ map standing (take l.number (lists_held l.fn.world l.fn.kind))
