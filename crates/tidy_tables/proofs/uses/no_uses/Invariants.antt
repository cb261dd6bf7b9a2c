use Rattle.std.proofs.Common.{take}
use Rattle.tidy_tables.specs.inside.UseCounts.{AreNone}
use Rattle.tidy_tables.proofs.uses.no_uses.Given as goal

abbrev pub invariant-loop-named : goal.invariant-loop-named
invariant-loop-named l = AreNone (take l.named-index l.tables.items) l.all.items
