use Rattle.check_units.specs.inside.Sums.{IsAdding}
use Rattle.check_units.proofs.sums.SizeSums.add.Given as goal

abbrev pub invariant-loop-at : goal.invariant-loop-at
invariant-loop-at l = IsAdding l.fn.self.cells.items l.place l.more l.at l.self.cells.items

abbrev pub decreases-loop-at : goal.decreases-loop-at
decreases-loop-at l = l.at
