use Rattle.std.proofs.Common.{◌≡◌, length, take}
use Rattle.std.specs.List.{sum_by}
use Rattle.entry_read.specs.Units.{HeadAndForest}
use Rattle.commands.proofs.summary.entry_total.Given as goal

abbrev pub invariant-loop-unit : goal.invariant-loop-unit
invariant-loop-unit l = l.total ≡ sum_by (λ (unit : HeadAndForest). length unit.forest.entries) (take l.unit-index l.units)
