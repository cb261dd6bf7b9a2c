use Rattle.std.proofs.Common.{◌≡◌, ◌+◌, ◌++◌, List, length, map, take}
use Rattle.expr_ops.specs.Slots.{Aim}
use Rattle.unit_write.specs.declared.slots.Spot.{Spot}
use Rattle.unit_write.specs.Slots.{all_spots}
use Rattle.unit_write.specs.inside.Marks.{AreSlotsMade, list_aim}
use Rattle.unit_write.proofs.slots.push_list_slots.Given as goal

abbrev pub invariant-loop-slot : goal.invariant-loop-slot
invariant-loop-slot l = record {
  count : length l.slots.items ≡ length l.fn.slots.items + l.slot-index;
  made : (spots : List Spot) (aims : List Aim) → length spots ≡ length aims → AreSlotsMade l.marks spots aims l.fn.slots.items → AreSlotsMade l.marks (all_spots spots l.lists) (aims ++ map list_aim (take l.slot-index l.lists)) l.slots.items;
}
