use Rattle.std.proofs.Common.{◌≡◌, take}
use Rattle.slot_layout.specs.Rows.{rows_of}
use Rattle.slot_layout.specs.inside.Rounds.{smallest_of}
use Rattle.slot_layout.proofs.rounds.smallest_sizes.Given as goal

abbrev pub invariant-loop-slot : goal.invariant-loop-slot
invariant-loop-slot l = l.sizes.items ≡ smallest_of (rows_of (take l.slot-index l.slots))
