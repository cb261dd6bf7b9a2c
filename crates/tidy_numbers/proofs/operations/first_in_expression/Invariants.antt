use Rattle.expr_ops.specs.Drafts.{op_at}
use Rattle.tidy_places.specs.Firsts.{IsLeastFound}
use Rattle.tidy_numbers.specs.LongOperations.{IsLongOperand}
use Rattle.tidy_numbers.proofs.FoundAmong.{HoldsBelow}
use Rattle.tidy_numbers.proofs.operations.first_in_expression.Given as goal

-- the least place in the operations so far
abbrev pub invariant-loop-op : goal.invariant-loop-op
invariant-loop-op l = IsLeastFound (HoldsBelow (λ k. IsLongOperand l.owned l.bytes (op_at l.ops k)) l.op-index) l.found
