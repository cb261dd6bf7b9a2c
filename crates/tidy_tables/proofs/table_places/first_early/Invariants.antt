use Rattle.std.proofs.Common.{slice_index}
use Rattle.tidy_places.specs.Firsts.{IsLeastFound}
use Rattle.tidy_tables.specs.inside.Marked.{IsAmong, IsGreatestOf}
use Rattle.tidy_tables.specs.inside.WrittenTables.{place_in, IsBelowEarlier}
use Rattle.tidy_tables.proofs.table_places.first_early.Given as goal

abbrev pub invariant-loop-number : goal.invariant-loop-number
invariant-loop-number l = record {
  least : IsLeastFound (IsAmong (IsBelowEarlier l.written.items) (λ k. place_in l.tables.items (slice_index l.written.items k)) l.number-index) l.least;
  greatest : IsGreatestOf (λ k. slice_index l.written.items k) l.number-index l.greatest;
}
