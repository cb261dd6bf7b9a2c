use Rattle.std.proofs.Common.{arith}
use Rattle.value_links.specs.Reading.{no_program}
use Rattle.commands.proofs.RowTotals.{counted_none, few_rows, next_stands, next_fault, counted_more, counted_all}
use Rattle.commands.proofs.summary.row_total.Goals as goal

pub loop-head-init : goal.loop-head-init
loop-head-init c = record { counted = counted_none c.args.section.now c.args.heads.now c.requires.tiled }

pub count_rows-requires-clause-head : goal.count_rows-requires-clause-head
count_rows-requires-clause-head c = next_stands c.args.section.now c.args.heads.now c.loop-head.head-index c.loop-head.total no_program.head c.loop-head.invariant.counted c.loop-head-test.true

pub unreachable-requires : goal.unreachable-requires
unreachable-requires c =
    let fault = c.in-Err.field-0 in
    let all = next_fault c.args.section.now c.args.heads.now c.loop-head.head-index c.loop-head.total no_program.head c.loop-head.invariant.counted c.loop-head-test.true fault c.in-Err.ensures.fault in
    c.requires.faultless fault.kind all.0 all.2

pub overflow_add-total : goal.overflow_add-total
overflow_add-total c =
    let few = few_rows c.args.section.now c.args.heads.now c.loop-head.head-index c.loop-head.total c.loop-head.invariant.counted in
    omega (arith, few, c.in-Ok.ensures.few)

pub loop-head-preserved : goal.loop-head-preserved
loop-head-preserved c = record {
  counted = counted_more c.args.section.now c.args.heads.now c.loop-head.head-index c.loop-head.total no_program.head c.loop-head.invariant.counted c.loop-head-test.true c.in-Ok.count c.requires.faultless c.in-Ok.ensures.counted c.in-Ok.ensures.few;
}

pub returns : goal.returns
returns c = λ programs means.
    counted_all c.args.section.now c.args.heads.now c.loop-head.head-index c.loop-head.total programs c.loop-head.invariant.counted c.loop-head-test.false c.requires.tiled means
