use Rattle.std.proofs.Common.{ℕ, List}
use Rattle.entry_read.specs.Units.{HeadAndForest}
use Rattle.tidy_tables.specs.inside.UntidyDeclarations.{HoldsColumns, AreShortBelow, IsUntidyBelow}
use Rattle.tidy_tables.proofs.declarations.first_of_values.Given as goal

abbrev pub invariant-loop-number : goal.invariant-loop-number
invariant-loop-number l = record {
  tidy : (units : List HeadAndForest) → HoldsColumns units l.table l.values → (p : ℕ) → IsUntidyBelow l.classes units l.table l.number p → ⊥;
  short : (units : List HeadAndForest) → HoldsColumns units l.table l.values → AreShortBelow l.classes units l.table l.number;
}
