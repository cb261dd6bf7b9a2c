use Rattle.rewriter.specs.inside.NewPlaces.{AreMovedTo}
use Rattle.rewriter.proofs.new_places.moved_views.Given as goal

abbrev pub invariant-loop-number : goal.invariant-loop-number
invariant-loop-number l = AreMovedTo l.views l.moved.items l.places.items l.number
