use Rattle.std.proofs.Common.{take}
use Rattle.tidy_tables.specs.inside.ColumnValues.{AddsEntries}
use Rattle.tidy_tables.proofs.column_values.ColumnValues.add_unit.Given as goal

abbrev pub invariant-loop-entry : goal.invariant-loop-entry
invariant-loop-entry l = AddsEntries l.table l.unit (take l.entry-index l.unit.forest.entries) l.fn.self l.self
