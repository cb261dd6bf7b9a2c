use Rattle.std.proofs.Common.{drop}
use Rattle.expr_ops.proofs.SlotSizes.{AreFound}
use Rattle.expr_ops.proofs.shortest.sizes_of.Given as goal

abbrev pub invariant-loop-k : goal.invariant-loop-k
invariant-loop-k l = AreFound l.refs l.bytes l.sizes.items l.ops l.k (drop l.ref_at l.refs)
