use Rattle.std.specs.Prelude.{◌≡◌, ℕ, List}
use Rattle.column_forms.specs.Tallies.{IsTally}
use Rattle.column_forms.specs.Rows.{AreHere, column_of}
use Rattle.column_forms.proofs.declaration.tally_of.Given as goal

abbrev pub invariant-loop-row : goal.invariant-loop-row
invariant-loop-row l = record {
  named : l.tally.name ≡ l.name;
  count : l.tally.count ≡ l.row;
  tally : (section : List ℕ) → AreHere section l.fn.values → IsTally section (column_of l.fn.values l.fn.width l.fn.column l.row) l.tally;
}
