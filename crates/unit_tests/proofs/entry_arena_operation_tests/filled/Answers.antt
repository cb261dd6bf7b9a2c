use Rattle.std.proofs.Common.{get_or, arith}
use Rattle.entry_arena.specs.Operations.{ComesLast}
use Rattle.entry_arena.proofs.OperationLaws.{op_last}
use Rattle.unit_tests.proofs.entry_arena_operation_tests.filled.Goals as goal

-- rows are in the order of their values
pub push_op-requires : goal.push_op-requires
push_op-requires g c i inside = omega (arith, c.loop-number.invariant i inside)

pub loop-number-preserved : goal.loop-number-preserved
loop-number-preserved g c =
    let last : ComesLast c.loop-number.held.runs (get_or c.args.rows.now c.loop-number.number-counter (0, 0)).0 = λ i inside. omega (arith, c.loop-number.invariant i inside) in
    rw c.in_ok-push_op.ensures.pushed.1 (op_last c.loop-number.held (get_or c.args.rows.now c.loop-number.number-counter (0, 0)).0 c.op.result last)
