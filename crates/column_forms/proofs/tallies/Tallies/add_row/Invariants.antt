use Rattle.column_forms.specs.inside.TableColumns.{AreCounted}
use Rattle.column_forms.proofs.tallies.Tallies.add_row.Given as goal

abbrev pub invariant-loop-j : goal.invariant-loop-j
invariant-loop-j l = AreCounted l.first l.columns l.row l.j l.fn.self l.self-inside.columns.items
