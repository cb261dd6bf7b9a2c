use Rattle.std.proofs.Common.{◌≡◌, ◌++◌, take}
use Rattle.check_units.specs.inside.Dealing.{steps_from}
use Rattle.check_units.proofs.steps.push_steps.Given as goal

abbrev pub invariant-loop-number : goal.invariant-loop-number
invariant-loop-number l = l.all.items ≡ l.fn.all.items ++ steps_from l.slot 0 (take l.number l.own)
