use Rattle.std.proofs.Common.{◌≡◌, length}
use Rattle.tidy_tables.proofs.MarkedNumbers.{AreMarked}
use Rattle.tidy_tables.proofs.loose.are_written_as_one.Given as goal

abbrev pub invariant-loop-number : goal.invariant-loop-number
invariant-loop-number l = record {
  size : length l.marks.items ≡ l.count;
  marked : AreMarked l.written.items l.number-index l.marks.items;
}
