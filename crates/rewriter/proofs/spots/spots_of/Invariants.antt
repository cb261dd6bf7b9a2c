use Rattle.rewriter.specs.inside.Placed.{operations_for}
use Rattle.rewriter.proofs.NamedSpots.{AreSpotsOfFirst}
use Rattle.rewriter.proofs.spots.spots_of.Given as goal

abbrev pub invariant-loop-id : goal.invariant-loop-id
invariant-loop-id l = AreSpotsOfFirst l.own (operations_for l.world l.own l.unit) l.spots.items l.id
