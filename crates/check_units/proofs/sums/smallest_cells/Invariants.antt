use Rattle.std.proofs.Common.{◌≡◌, ◌++◌, length, take, replicate}
use Rattle.slot_layout.specs.Rows.{rows_of}
use Rattle.slot_layout.specs.inside.Rounds.{smallest_of}
use Rattle.check_units.proofs.sums.smallest_cells.Given as goal

abbrev pub invariant-loop-slot : goal.invariant-loop-slot
invariant-loop-slot l = l.cells.items ≡ replicate (length l.slots) 0 ++ smallest_of (rows_of (take l.slot-index l.slots))
