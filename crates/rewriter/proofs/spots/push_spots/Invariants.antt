use Rattle.std.proofs.Common.{◌+◌}
use Rattle.rewriter.specs.inside.Placed.{operations_for}
use Rattle.rewriter.specs.inside.Held.{entry_in, AreSpotsUpTo}
use Rattle.rewriter.proofs.spots.push_spots.Given as goal

abbrev pub invariant-loop-column : goal.invariant-loop-column
invariant-loop-column l = AreSpotsUpTo l.own (operations_for l.world l.own l.unit) l.spots.items ((entry_in l.world l.unit l.id).first + l.column)
