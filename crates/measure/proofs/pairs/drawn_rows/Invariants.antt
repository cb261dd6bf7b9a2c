use Rattle.std.proofs.Common.{◌<◌, ◌^◌}
use Rattle.std.specs.Prelude.{All}
use Rattle.line_machine.specs.Class.{IsRow}
use Rattle.measure.proofs.pairs.drawn_rows.Given as goal

abbrev pub invariant-loop : goal.invariant-loop
invariant-loop l = record {
  each : All IsRow l.rows.items;
  below : l.last.line < 2 ^ 32;
}
