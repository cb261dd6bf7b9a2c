use Rattle.std.proofs.Common.{take}
use Rattle.rewriter.specs.inside.Columns.{names_of, AddsEntries}
use Rattle.rewriter.proofs.columns.add_unit.Given as goal

abbrev pub invariant-loop-entry : goal.invariant-loop-entry
invariant-loop-entry l = AddsEntries (names_of l.table.specs) l.table.decls l.unit (take l.entry-index l.unit.forest.entries) l.fn.tallies l.tallies
