use Rattle.std.proofs.Common.{take}
use Rattle.rewriter.specs.inside.Columns.{AreGathered}
use Rattle.rewriter.proofs.columns.best_columns.Given as goal

abbrev pub invariant-loop-number : goal.invariant-loop-number
invariant-loop-number l = AreGathered l.units.items l.table l.named.items (take l.number-index l.named.items) l.tallies
