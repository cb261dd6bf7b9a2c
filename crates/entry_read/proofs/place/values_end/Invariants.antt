use Rattle.entry_read.proofs.ColumnPlaces.{StandsOn}
use Rattle.entry_read.proofs.place.values_end.Given as goal

abbrev pub invariant-loop-column : goal.invariant-loop-column
invariant-loop-column l = StandsOn l.info l.columns l.fn.from l.column-index l.at
