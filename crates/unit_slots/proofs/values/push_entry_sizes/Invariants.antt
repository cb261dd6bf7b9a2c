use Rattle.std.proofs.Common.{◌≡◌, ◌≤◌, ◌+◌, length}
use Rattle.slot_layout.specs.Rows.{most_slots}
use Rattle.entry_arena.specs.Arena.{entry_at}
use Rattle.unit_slots.specs.inside.Own.{unit_by, operations_by}
use Rattle.unit_slots.proofs.EntrySizes.{HaveCome}
use Rattle.unit_slots.proofs.values.push_entry_sizes.Given as goal

abbrev pub invariant-loop-column : goal.invariant-loop-column
invariant-loop-column l = record {
  come : HaveCome (unit_by l.unit l.table) (operations_by (unit_by l.unit l.table) l.operations) l.id l.column-index l.from l.fn.sizes.items l.sizes.items;
  counted : l.number ≡ (entry_at l.unit.forest.entries l.id).first + l.column-index;
  few : length l.sizes.items ≤ most_slots;
}
