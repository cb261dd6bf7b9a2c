use Rattle.std.proofs.Common.{arith}
use Rattle.std.specs.Prelude.{pos}
use Rattle.line_sums.specs.declared.step.Step.TheVariants.{Row as RowStep}
use Rattle.line_sums.specs.Counting.{row_bytes}
use Rattle.line_sums.proofs.Summing.{summed_more, summed_small}
use Rattle.line_sums.proofs.rest.add_next.Goals as goal

pub add_step-requires-clause-room : goal.add_step-requires-clause-room
add_step-requires-clause-room c = λ place h.
    let small = summed_small c.args.range c.args.min c.args.counted.now c.args.index c.args.sums.now c.args.rest c.requires.few c.requires.summed place h in
    omega (arith, small)

pub returns-clause-summed : goal.returns-clause-summed
returns-clause-summed c =
    summed_more c.args.range c.args.min row_bytes c.args.counted.now c.args.index (record { step = RowStep (pos 0) 0; count = 0 }) c.args.sums.now c.add_step.new.sums c.args.rest c.row_bytes.result c.requires.inside c.requires.summed c.add_step.ensures.added c.row_bytes.ensures.is
