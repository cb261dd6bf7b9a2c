use Rattle.rewriter.specs.inside.Placed.{unit_in}
use Rattle.rewriter.proofs.NamedSpots.{AreSpotsOfFront}
use Rattle.rewriter.proofs.spots.push_expression_spots.Given as goal

abbrev pub invariant-loop-op : goal.invariant-loop-op
invariant-loop-op l = AreSpotsOfFront (unit_in l.world.units l.unit) l.ops l.op-index l.fn.spots.items l.spots.items
