use Rattle.std.proofs.Common.{◌≡◌, take}
use Rattle.entry_read.specs.Units.{declarations_of}
use Rattle.tidy_tables.specs.Untidy.{outlines_of}
use Rattle.tidy_tables.specs.inside.Outlines.{outlines_held}
use Rattle.tidy_tables.proofs.outlines.all_outlines.Given as goal

abbrev pub invariant-loop-number : goal.invariant-loop-number
invariant-loop-number l = outlines_held l.all.items ≡ outlines_of (take l.number (declarations_of l.table))
