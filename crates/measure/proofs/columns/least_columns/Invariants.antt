use Rattle.std.proofs.Common.{◌≡◌, length}
use Rattle.column_forms.specs.TableColumns.{HaveAtMost}
use Rattle.measure.proofs.columns.least_columns.Given as goal

abbrev pub invariant-loop : goal.invariant-loop
invariant-loop l = record {
  wide : length l.tallies ≡ 8;
  few : HaveAtMost l.counter l.tallies;
}
