use Rattle.std.proofs.Common.{take}
use Rattle.tidy_tables.specs.inside.ColumnValues.{AreGathered}
use Rattle.tidy_tables.proofs.column_values.ColumnValues.gather.Given as goal

abbrev pub invariant-loop-number : goal.invariant-loop-number
invariant-loop-number l = AreGathered l.units.items l.table l.named.items (take l.number-index l.named.items) l.held
