use Rattle.std.proofs.Common.{◌≡◌, ◌++◌, drop}
use Rattle.slot_layout.specs.Rows.{rows_of}
use Rattle.slot_layout.specs.inside.Rounds.{joined}
use Rattle.slot_layout.proofs.ranking.in_slot_order.Given as goal

abbrev pub invariant-loop-i : goal.invariant-loop-i
invariant-loop-i l =
    l.all.items ++ joined (drop l.i (rows_of l.slots)) (drop l.i l.sizes) (drop l.i l.ranks) ≡ joined (rows_of l.slots) l.sizes l.ranks
