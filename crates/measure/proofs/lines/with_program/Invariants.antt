use Rattle.std.proofs.Common.{◌≡◌}
use Rattle.line_machine.specs.Cursors.{Stands}
use Rattle.measure.proofs.lines.with_program.Given as goal

abbrev pub invariant-loop : goal.invariant-loop
invariant-loop l = record {
  stands : Stands l.section l.cursor;
  origin : l.cursor.origin ≡ 0;
}
