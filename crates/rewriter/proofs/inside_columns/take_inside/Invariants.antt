use Rattle.rewriter.proofs.ColumnsSeen.{HaveTaken}
use Rattle.rewriter.proofs.inside_columns.take_inside.Given as goal

abbrev pub invariant-loop-k : goal.invariant-loop-k
invariant-loop-k l = HaveTaken l.seen l.fn.columns.items l.k l.columns.items
