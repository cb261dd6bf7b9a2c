use Rattle.std.proofs.Common.{◌<◌, ℕ}
use Rattle.tidy_places.specs.Firsts.{IsLeastFound}
use Rattle.tidy_numbers.specs.inside.LongEntries.{IsLongEndAt}
use Rattle.tidy_numbers.proofs.units.first_of_ends.Given as goal

abbrev pub invariant-loop-end : goal.invariant-loop-end
invariant-loop-end l = IsLeastFound (λ p. (k : ℕ) × (k < l.end-index) × IsLongEndAt l.info l.ends k p) l.first
