use Rattle.std.proofs.Common.{◌≡◌, take}
use Rattle.check_units.specs.inside.Dealing.{steps_of, pieces}
use Rattle.check_units.proofs.steps.steps_in_slot_order.Given as goal

abbrev pub invariant-loop-i : goal.invariant-loop-i
invariant-loop-i l = l.all.items ≡ steps_of 0 (take l.i (pieces l.ranks l.starts))
