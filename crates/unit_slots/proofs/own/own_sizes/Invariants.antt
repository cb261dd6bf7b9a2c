use Rattle.std.proofs.Common.{◌≤◌, length}
use Rattle.slot_layout.specs.Rows.{most_slots}
use Rattle.unit_slots.specs.inside.Own.{unit_by, operations_by}
use Rattle.unit_slots.proofs.UnitSizes.{IsCome}
use Rattle.unit_slots.proofs.own.own_sizes.Given as goal

abbrev pub invariant-loop-id : goal.invariant-loop-id
invariant-loop-id l = record {
  come : IsCome (unit_by l.unit l.table) (operations_by (unit_by l.unit l.table) l.operations) l.id l.sizes.items l.starts.items;
  few : length l.sizes.items ≤ most_slots;
}
