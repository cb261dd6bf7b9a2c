use Rattle.std.proofs.Common.{take}
use Rattle.spelled.specs.Spelled.{Joined, Appends}
use Rattle.abbrev_tables.specs.Written.{ShortestColumn}
use Rattle.abbrev_tables.proofs.write.put_columns.Given as goal

abbrev pub invariant-loop-column : goal.invariant-loop-column
invariant-loop-column l = record {
  put : Appends (Joined ShortestColumn) (take l.column-index l.columns) l.fn.out.items l.out.items;
}
