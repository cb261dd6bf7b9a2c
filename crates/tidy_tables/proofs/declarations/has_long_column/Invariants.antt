use Rattle.std.proofs.Common.{List}
use Rattle.entry_read.specs.Units.{HeadAndForest}
use Rattle.tidy_tables.specs.inside.UntidyDeclarations.{HoldsColumns, AreShortTo}
use Rattle.tidy_tables.proofs.declarations.has_long_column.Given as goal

abbrev pub invariant-loop-j : goal.invariant-loop-j
invariant-loop-j l = (units : List HeadAndForest) → HoldsColumns units l.table l.values → AreShortTo l.classes units l.table l.number l.j
