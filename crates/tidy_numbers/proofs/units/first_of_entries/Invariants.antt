use Rattle.std.proofs.Common.{◌<◌, ℕ}
use Rattle.tidy_places.specs.Firsts.{IsLeastFound}
use Rattle.tidy_numbers.specs.inside.LongEntries.{IsLongInEntryOf, unit_by}
use Rattle.tidy_numbers.proofs.units.first_of_entries.Given as goal

abbrev pub invariant-loop-id : goal.invariant-loop-id
invariant-loop-id l = IsLeastFound (λ p. (id : ℕ) × (id < l.id) × IsLongInEntryOf (unit_by l.unit l.table) id p) l.first
