use Rattle.std.proofs.Common.{◌<◌, ℕ}
use Rattle.abbrev_tables.specs.Listings.{spec_at}
use Rattle.entry_arena.specs.Arena.{value_at}
use Rattle.unit_tests.proofs.WritableUnits.{IsSizedIn}
use Rattle.unit_tests.proofs.unit_write_write_tests.are_sized.Given as goal

abbrev pub invariant-loop-place : goal.invariant-loop-place
invariant-loop-place l = record {
  each : (k : ℕ) → k < l.place → IsSizedIn (spec_at l.columns k) (value_at l.values k);
}
