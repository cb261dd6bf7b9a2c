use Rattle.std.proofs.Common.{◌≡◌, take}
use Rattle.std.specs.Prelude.{true, All}
use Rattle.line_machine.specs.Rows.{ends}
use Rattle.line_machine.specs.Class.{IsRow}
use Rattle.line_tests.proofs.rows.are_rows.Given as goal

abbrev pub invariant-loop-row : goal.invariant-loop-row
invariant-loop-row l = record {
  each : All IsRow (take l.row-index l.rows);
  ended : l.ended ≡ ends true (take l.row-index l.rows);
}
