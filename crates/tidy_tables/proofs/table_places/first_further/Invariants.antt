use Rattle.std.proofs.Common.{slice_index}
use Rattle.tidy_places.specs.Firsts.{IsLeastFound}
use Rattle.tidy_tables.specs.inside.Marked.{IsAmong}
use Rattle.tidy_tables.specs.inside.WrittenTables.{place_in, NamesOther}
use Rattle.tidy_tables.proofs.table_places.first_further.Given as goal

abbrev pub invariant-loop-unit : goal.invariant-loop-unit
invariant-loop-unit l =
    IsLeastFound (IsAmong (NamesOther l.written.items l.old_of.items l.new_of.items) (λ u. place_in l.tables.items (slice_index l.new_of.items u)) l.unit) l.least
