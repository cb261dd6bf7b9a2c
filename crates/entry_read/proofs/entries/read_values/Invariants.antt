use Rattle.std.proofs.Common.{◌≤◌, take}
use Rattle.entry_read.specs.inside.Readings.{AddsValues}
use Rattle.entry_read.proofs.entries.read_values.Given as goal

abbrev pub invariant-loop-column : goal.invariant-loop-column
invariant-loop-column l = record {
  inside : l.at ≤ l.fn.end;
  adds : AddsValues l.info (take l.column-index l.columns) l.fn.forest l.fn.from l.forest l.at;
}
