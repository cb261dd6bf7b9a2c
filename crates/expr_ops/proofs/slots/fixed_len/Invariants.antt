use Rattle.std.proofs.Common.{◌≡◌, ◌+◌, drop}
use Rattle.expr_ops.specs.Ops.{all_meant}
use Rattle.expr_ops.specs.Shortest.{fixed_length}
use Rattle.expr_ops.proofs.slots.fixed_len.Given as goal

-- what is left makes the whole
abbrev pub invariant-loop-op : goal.invariant-loop-op
invariant-loop-op l = l.sum + fixed_length (all_meant l.bytes (drop l.op-index l.ops)) ≡ fixed_length (all_meant l.bytes l.ops)
