use Rattle.std.proofs.Common.{◌<◌, ℕ, length}
use Rattle.entry_arena.specs.Arena.{entry_at}
use Rattle.unit_write.specs.Placing.{columns_of, values_in}
use Rattle.unit_tests.proofs.WritableUnits.{AreSizedIn}
use Rattle.unit_tests.proofs.unit_write_write_tests.entries_are_sized.Given as goal

abbrev pub invariant-loop-id : goal.invariant-loop-id
invariant-loop-id l = record {
  each : (id : ℕ) → id < l.id → ((entry_at l.unit.forest.entries id).decl < length l.table.decls) × AreSizedIn (columns_of l.table l.specs (entry_at l.unit.forest.entries id).decl) (values_in l.unit.forest id);
}
