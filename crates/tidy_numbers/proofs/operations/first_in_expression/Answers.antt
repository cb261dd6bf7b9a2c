use Rattle.std.proofs.Common.{arith}
use Rattle.expr_ops.specs.Drafts.{op_at}
use Rattle.tidy_numbers.specs.LongOperations.{IsLongOperand}
use Rattle.tidy_numbers.proofs.ExpressionPlaces.{lead_at, expression_found}
use Rattle.tidy_numbers.proofs.FoundAmong.{below_next}
use Rattle.tidy_numbers.proofs.operations.first_in_expression.Goals as goal

pub first_in_operation-requires : goal.first_in_operation-requires
first_in_operation-requires c = lead_at c.args.bytes.now c.args.ops.now c.loop-op.op-index c.requires.places c.loop-op-test.true

pub loop-op-preserved : goal.loop-op-preserved
loop-op-preserved c =
    below_next (λ k. IsLongOperand c.args.owned c.args.bytes.now (op_at c.args.ops.now k)) c.loop-op.op-index c.loop-op.found c.first_in_operation.result c.earlier-found.result c.loop-op.invariant c.first_in_operation.ensures c.earlier-found.ensures

pub returns : goal.returns
returns c = expression_found c.args.owned c.args.bytes.now c.args.ops.now c.requires.spelled c.requires.places c.loop-op.op-index c.loop-op.found (omega (arith, c.loop-op-test.false)) c.loop-op.invariant
