use Rattle.rewriter.proofs.ColumnsSeen.{HasSeenRow}
use Rattle.rewriter.proofs.inside_columns.see_row.Given as goal

abbrev pub invariant-loop-j : goal.invariant-loop-j
invariant-loop-j l = HasSeenRow l.first l.head l.row l.j l.fn.seen.items l.seen.items
