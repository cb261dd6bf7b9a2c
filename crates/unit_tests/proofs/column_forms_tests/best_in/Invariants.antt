use Rattle.std.proofs.Common.{◌≤◌, ◌+◌, length}
use Rattle.unit_tests.proofs.column_forms_tests.best_in.Given as goal

abbrev pub invariant-loop : goal.invariant-loop
invariant-loop l = record {
  inside : l.at ≤ length l.bytes;
  few : l.tally.count ≤ l.counter + 1;
}
