use Rattle.std.proofs.Common.{◌-◌, List, length}
use Rattle.list_write.specs.Written.{ToWrite}
use Rattle.list_write.specs.inside.Places.{CanBePlaced, ArePlacedTo, ArePlacedWithin}
use Rattle.list_write.proofs.places.place_parts.Given as goal

abbrev pub invariant-loop-number : goal.invariant-loop-number
invariant-loop-number l = (written : List ToWrite) → CanBePlaced l.parts written l.lists l.runs → ArePlacedTo l.parts written l.number l.at l.placed.items l.moved.items l.views.items

abbrev pub invariant-loop-moved : goal.invariant-loop-moved
invariant-loop-moved l = (written : List ToWrite) → CanBePlaced l.parts written l.lists l.runs → ArePlacedWithin l.parts written l.number l.begin l.at l.placed.items l.moved.items l.views.items

abbrev pub decreases-loop-moved : goal.decreases-loop-moved
decreases-loop-moved l = length l.lists - length l.moved.items
