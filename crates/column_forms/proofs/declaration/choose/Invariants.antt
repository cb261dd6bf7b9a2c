use Rattle.column_forms.specs.Rows.{AreChosen}
use Rattle.column_forms.proofs.declaration.choose.Given as goal

abbrev pub invariant-loop-column : goal.invariant-loop-column
invariant-loop-column l = AreChosen l.fn.specs.items l.fn.uses l.column l.fn.values.items l.chosen.items
