use Rattle.std.proofs.Common.{◌<◌, ℕ}
use Rattle.tidy_places.specs.Firsts.{IsLeastFound}
use Rattle.tidy_numbers.specs.LongUnits.{IsLongInUnit}
use Rattle.tidy_numbers.specs.inside.LongEntries.{unit_held}
use Rattle.tidy_numbers.proofs.units.first_in_entries.Given as goal

abbrev pub invariant-loop-number : goal.invariant-loop-number
invariant-loop-number l = IsLeastFound (λ p. (u : ℕ) × (u < l.number) × IsLongInUnit (unit_held l.world u) p) l.first
