use Rattle.std.proofs.Common.{◌≡◌, length}
use Rattle.tidy_tables.specs.inside.WrittenTables.{AreWrittenAmong}
use Rattle.tidy_tables.proofs.written.written_numbers.Given as goal

abbrev pub invariant-loop-unit : goal.invariant-loop-unit
invariant-loop-unit l = record {
  size : length l.written.items ≡ l.count;
  written : AreWrittenAmong l.old_of.items l.new_of.items l.unit l.written.items;
}
