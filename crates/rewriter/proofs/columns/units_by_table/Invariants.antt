use Rattle.rewriter.specs.inside.Columns.{AreNamers}
use Rattle.rewriter.proofs.columns.units_by_table.Given as goal

abbrev pub invariant-loop-u : goal.invariant-loop-u
invariant-loop-u l = AreNamers l.table_of.items l.tables l.u l.all.items
