use Rattle.std.proofs.Common.{take}
use Rattle.entry_read.specs.inside.Pushing.{AddsOps}
use Rattle.entry_read.proofs.expressions.push_all.Given as goal

abbrev pub invariant-loop-op : goal.invariant-loop-op
invariant-loop-op l = AddsOps l.number (take l.op-index l.ops) l.fn.held l.held
