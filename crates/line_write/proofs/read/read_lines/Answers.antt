use Rattle.std.proofs.Common.{refl}
use Rattle.std.proofs.lemmas.Result.{err_from_is_err_and}
use Rattle.line_write.proofs.Reading.{head_fault, program_fault, total_fault, reading_on, reading_whole, read_whole}
use Rattle.line_write.proofs.read.read_lines.Goals as goal

pub returns-in_err-head-clause-fault : goal.returns-in_err-head-clause-fault
returns-in_err-head-clause-fault c =
    let p = err_from_is_err_and c.from_residual.result c.from_residual.ensures.1 in
    rw (p.1, p.2) (head_fault c.args.section.now c.args.origin c.loop-at.at c.loop-at.total c.loop-at.heads.items c.loop-at.invariant.reading c.in_err-head.field-0.0 c.loop-at-test.true c.in_err-head.ensures.fault)

pub returns-in_err-total-clause-fault : goal.returns-in_err-total-clause-fault
returns-in_err-total-clause-fault c =
    let p = err_from_is_err_and c.from_residual-in_err-total.result c.from_residual-in_err-total.ensures.1 in
    rw (p.1, p.2) (program_fault c.args.section.now c.args.origin c.loop-at.at c.loop-at.total c.loop-at.heads.items c.loop-at.invariant.reading c.in_ok-head.head c.in_ok-head.ensures.place c.in_ok-head.ensures.head c.in_err-total.field-0.0 c.loop-at-test.true c.in_err-total.ensures.fault)

pub returns-then-total-gt-TOTAL_LIMIT-clause-fault : goal.returns-then-total-gt-TOTAL_LIMIT-clause-fault
returns-then-total-gt-TOTAL_LIMIT-clause-fault c = (
  c.loop-at.at,
  refl,
  total_fault c.args.section.now c.args.origin c.loop-at.at c.loop-at.total c.loop-at.heads.items c.loop-at.invariant.reading c.in_ok-head.head c.in_ok-head.ensures.place c.in_ok-head.ensures.head c.in_ok-total.field-0 c.in_ok-total.ensures.counted c.if-total-gt-TOTAL_LIMIT.true,
)

pub loop-at-preserved : goal.loop-at-preserved
loop-at-preserved c = record {
  reading = reading_on c.args.section.now c.args.origin c.loop-at.at c.loop-at.total c.loop-at.heads.items c.loop-at.invariant.reading c.in_ok-head.head c.in_ok-head.ensures.place c.in_ok-head.ensures.head c.in_ok-total.field-0 c.push.new.heads.items c.in_ok-total.ensures.counted c.in_ok-total.ensures.few c.if-total-gt-TOTAL_LIMIT.false c.in_ok-push.ensures;
}

pub returns-clause-read : goal.returns-clause-read
returns-clause-read c = reading_whole c.args.section.now c.args.origin c.loop-at.at c.loop-at.total c.loop-at.heads.items c.loop-at.invariant.reading c.loop-at-test.false

pub returns-clause-whole : goal.returns-clause-whole
returns-clause-whole c =
    read_whole c.args.section.now c.loop-at.heads.items (reading_whole c.args.section.now c.args.origin c.loop-at.at c.loop-at.total c.loop-at.heads.items c.loop-at.invariant.reading c.loop-at-test.false)
