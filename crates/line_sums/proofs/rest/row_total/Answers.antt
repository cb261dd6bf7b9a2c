use Rattle.std.proofs.Common.{arith}
use Rattle.std.specs.Prelude.{pos}
use Rattle.line_sums.specs.declared.step.Step.TheVariants.{Row as RowStep}
use Rattle.line_sums.proofs.Prices.{counted_more, count_more}
use Rattle.line_sums.specs.Counting.{row_bytes}
use Rattle.line_sums.proofs.Summing.{first_few}
use Rattle.line_sums.proofs.rest.row_total.Goals as goal

pub loop-counted_step-preserved : goal.loop-counted_step-preserved
loop-counted_step-preserved c =
    let more = counted_more row_bytes c.args.counted.now c.loop-counted_step.counted_step-index (record { step = RowStep (pos 0) 0; count = 0 }) c.loop-counted_step-test.true in
    omega (arith, more, c.loop-counted_step.invariant, c.row_bytes-bytes.ensures.is)

pub overflow_add-bytes : goal.overflow_add-bytes
overflow_add-bytes c =
    let few = first_few c.args.counted.now c.loop-counted_step.counted_step-index in
    let count = count_more c.args.counted.now c.loop-counted_step.counted_step-index (record { step = RowStep (pos 0) 0; count = 0 }) c.loop-counted_step-test.true in
    record { fits = omega (arith, few, count, c.requires.few, c.loop-counted_step.invariant, c.row_bytes-bytes.ensures.few) }
