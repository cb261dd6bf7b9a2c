use Rattle.std.proofs.Common.{◌-◌}
use Rattle.check_units.proofs.CellLaws.{IsSumming}
use Rattle.check_units.proofs.sums.SizeSums.between.Given as goal

abbrev pub invariant-loop-low : goal.invariant-loop-low
invariant-loop-low l = IsSumming l.self.cells.items l.from l.to l.low l.high l.sum

abbrev pub decreases-loop-low : goal.decreases-loop-low
decreases-loop-low l = l.high - l.low
