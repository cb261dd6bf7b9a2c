use Rattle.std.proofs.Common.{slice_index}
use Rattle.tidy_places.specs.Firsts.{IsLeastFound}
use Rattle.tidy_tables.specs.inside.Marked.{IsAmong}
use Rattle.tidy_tables.specs.inside.Outlines.{IsWrittenOtherwise}
use Rattle.tidy_tables.specs.inside.WrittenTables.{place_in}
use Rattle.tidy_tables.proofs.outlines.first_other.Given as goal

abbrev pub invariant-loop-number : goal.invariant-loop-number
invariant-loop-number l =
    IsLeastFound (IsAmong (IsWrittenOtherwise l.old.items l.uses.items l.written.items l.new.items) (λ k. place_in l.new.items (slice_index l.written.items k)) l.number) l.least
