use Rattle.std.proofs.Common.{◌≡◌, take}
use Rattle.entry_read.specs.Units.{declarations_of}
use Rattle.tidy_tables.specs.Untidy.{outlines_of, used_among}
use Rattle.tidy_tables.specs.inside.Outlines.{outlines_held}
use Rattle.tidy_tables.proofs.outlines.used_outlines.Given as goal

abbrev pub invariant-loop-number : goal.invariant-loop-number
invariant-loop-number l = outlines_held l.used.items ≡ outlines_of (used_among (take l.number (declarations_of l.table)) (take l.number l.uses.items))
