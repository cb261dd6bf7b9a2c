use Rattle.std.proofs.Common.{take}
use Rattle.list_tests.specs.Writable.{AreEntries}
use Rattle.list_tests.proofs.list_write_tests.are_entries.Given as goal

abbrev pub invariant-loop-raw : goal.invariant-loop-raw
invariant-loop-raw l = AreEntries l.kind (take l.raw-index l.raws.items)
