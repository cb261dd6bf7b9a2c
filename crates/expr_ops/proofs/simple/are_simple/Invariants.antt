use Rattle.std.proofs.Common.{take}
use Rattle.expr_ops.specs.Shortest.{AreSimple}
use Rattle.expr_ops.proofs.simple.are_simple.Given as goal

abbrev pub invariant-loop-op : goal.invariant-loop-op
invariant-loop-op l = AreSimple (take l.op-index l.ops)
