use Rattle.std.proofs.Common.{arith, rules}
use Rattle.line_machine.specs.Rows.{rows_in}
use Rattle.line_machine.proofs.Passing.{passed_none, passed_on, passed_more, fault_ahead}
use Rattle.line_machine.proofs.place.pass_to_row.Goals as goal

pub loop-place-init : goal.loop-place-init
loop-place-init c = record {
  from = omega arith;
  inside = c.requires.within;
  near = c.requires.near;
  passed = passed_none c.args.head.now c.args.program.now c.args.start;
}

pub loop-place-preserved : goal.loop-place-preserved
loop-place-preserved c = record {
  from = omega (arith, c.in_ok-step.ensures.on);
  inside = c.in_ok-step.ensures.within;
  near = c.in_ok-step.ensures.near;
  passed = passed_more c.args.head.now c.args.program.now c.args.start c.loop-place.place c.in_ok-step.step.place c.in_ok-step.step.row c.loop-place.invariant.passed c.in_ok-step.ensures.passed c.in-None.is;
}

pub returns-in-Some-clause-passed : goal.returns-in-Some-clause-passed
returns-in-Some-clause-passed c =
    passed_on c.args.head.now c.args.program.now c.args.start c.loop-place.place c.in_ok-step.step.place (rows_in c.in_ok-step.step.row) c.loop-place.invariant.passed c.in_ok-step.ensures.passed

pub returns-in_err-step-clause-fault : goal.returns-in_err-step-clause-fault
returns-in_err-step-clause-fault c =
    let ahead = fault_ahead c.args.head.now c.args.program.now c.args.start c.loop-place.place c.in_err-step.field-0.0.kind c.in_err-step.field-0.0.place c.loop-place.invariant.passed c.in_err-step.ensures.fault in
    search (rules, ahead)
