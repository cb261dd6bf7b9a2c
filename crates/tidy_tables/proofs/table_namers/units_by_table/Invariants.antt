use Rattle.tidy_tables.specs.inside.TableNamers.{AreNamers}
use Rattle.tidy_tables.proofs.table_namers.units_by_table.Given as goal

abbrev pub invariant-loop-u : goal.invariant-loop-u
invariant-loop-u l = AreNamers l.table_of.items l.tables l.u l.all.items
