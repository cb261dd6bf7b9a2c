use Rattle.unit_write.proofs.Sizing.{IsSummed}
use Rattle.unit_write.proofs.places.after_values.Given as goal

abbrev pub invariant-loop-column : goal.invariant-loop-column
invariant-loop-column l = IsSummed l.columns l.values l.lens l.at l.column-iterator.a.a.rest.now l.column-iterator.a.b.rest.now l.column-iterator.b.rest.now l.to
