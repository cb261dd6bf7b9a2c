use Rattle.std.proofs.Common.{take}
use Rattle.rewriter.specs.inside.Columns.{SeesEntries}
use Rattle.rewriter.proofs.inside_columns.see_unit.Given as goal

abbrev pub invariant-loop-entry : goal.invariant-loop-entry
invariant-loop-entry l = SeesEntries l.table.decls l.unit (take l.entry-index l.unit.forest.entries) l.fn.seen.items l.seen.items
