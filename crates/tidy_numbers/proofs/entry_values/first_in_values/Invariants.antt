use Rattle.tidy_places.specs.Firsts.{IsLeastFound}
use Rattle.tidy_numbers.specs.inside.LongEntries.{IsLongAmongValues}
use Rattle.tidy_numbers.proofs.EntryNumbers.{HaveCome}
use Rattle.tidy_numbers.proofs.entry_values.first_in_values.Given as goal

abbrev pub invariant-loop-column : goal.invariant-loop-column
invariant-loop-column l = record {
  come : HaveCome l.info l.columns l.fn.from l.column-index l.at;
  least : IsLeastFound (IsLongAmongValues l.info l.columns l.fn.from l.column-index) l.first;
}
