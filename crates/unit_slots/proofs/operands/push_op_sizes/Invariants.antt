use Rattle.std.proofs.Common.{◌≤◌, length}
use Rattle.slot_layout.specs.Rows.{most_slots}
use Rattle.unit_slots.proofs.ExpressionSizes.{HaveSizesTo}
use Rattle.unit_slots.proofs.operands.push_op_sizes.Given as goal

abbrev pub invariant-loop-op : goal.invariant-loop-op
invariant-loop-op l = record {
  so : HaveSizesTo l.bytes l.ops l.op-index l.fn.sizes.items l.sizes.items;
  few : length l.sizes.items ≤ most_slots;
}
