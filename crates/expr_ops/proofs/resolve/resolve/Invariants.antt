use Rattle.std.proofs.Common.{length, ◌≡◌, ℕ, List}
use Rattle.expr_ops.specs.declared.op.Op.{Op}
use Rattle.expr_ops.specs.inside.Levels.{IsFront, IsChained}
use Rattle.expr_ops.proofs.Sents.{IsSent}
use Rattle.expr_ops.proofs.resolve.resolve.Given as goal

abbrev pub invariant-loop-k : goal.invariant-loop-k
invariant-loop-k l = record {
  size : length l.ops.items ≡ length l.fn.ops.items;
  chain : (outer : List ℕ) (from to : ℕ) (old : List Op) → length old ≡ l.first → IsChained outer from to old l.fn.ops.items → IsChained outer from to old l.ops.items;
  sent : (outer : List ℕ) (old : List Op) → length old ≡ l.first → IsFront outer l.most l.deep l.bytes old l.fn.ops.items l.starts (length l.bytes) → IsSent outer l.most l.deep l.bytes old l.ops.items l.starts l.k;
}
