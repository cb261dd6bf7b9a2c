use Rattle.std.proofs.Common.{◌≤◌, length}
use Rattle.unit_tests.proofs.column_forms_tests.written.Given as goal

abbrev pub invariant-loop : goal.invariant-loop
invariant-loop l = l.at ≤ length l.bytes
