use Rattle.tidy_tables.specs.inside.ColumnValues.{HasSeen}
use Rattle.tidy_tables.proofs.column_values.see_row.Given as goal

abbrev pub invariant-loop-j : goal.invariant-loop-j
invariant-loop-j l = HasSeen l.first l.head l.row l.j l.fn.inside.items l.inside.items
