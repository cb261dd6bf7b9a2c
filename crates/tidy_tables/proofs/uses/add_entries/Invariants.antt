use Rattle.std.proofs.Common.{take}
use Rattle.tidy_tables.specs.inside.UseCounts.{AddsUses}
use Rattle.tidy_tables.proofs.uses.add_entries.Given as goal

abbrev pub invariant-loop-entry : goal.invariant-loop-entry
invariant-loop-entry l = AddsUses (take l.entry-index l.entries) l.fn.counts.items l.counts.items
