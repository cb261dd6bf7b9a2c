use Rattle.std.proofs.Common.{◌≤◌, length, subst, sym}
use Rattle.abbrev_tables.specs.declared.read.FaultAt.{FaultAt}
use Rattle.abbrev_tables.specs.Faults.{FaultColumns}
use Rattle.std.proofs.lemmas.List.{take_rest}
use Rattle.abbrev_tables.proofs.Steps.{step_more, step_end, columns_fault, columns_short}
use Rattle.abbrev_tables.proofs.read.read_columns.Goals as goal

pub loop-at-preserved : goal.loop-at-preserved
loop-at-preserved c =
    let read = rw take_rest at c.in-Ok.ensures.read in
    let more = step_more c.args.specs.now.items c.loop-at.specs.items c.push.new.specs.items c.args.rest.now c.in-Column.column c.loop-at.at c.in-Ok.read.end c.in-Ok.read.step c.loop-at.invariant.inside c.loop-at.invariant.spelled read.0 read.2 c.in-Column.is c.in_ok-push-in-Column.ensures in
    record { inside = more.0; spelled = more.1 }

pub returns-in-End-clause-read : goal.returns-in-End-clause-read
returns-in-End-clause-read c =
    let read = rw take_rest at c.in-Ok.ensures.read in
    step_end c.args.specs.now.items c.loop-at.specs.items c.args.rest.now c.loop-at.at c.in-Ok.read.end c.in-Ok.read.step c.loop-at.invariant.inside c.loop-at.invariant.spelled read.0 read.2 c.in-End.is

pub returns-clause-fault : goal.returns-clause-fault
returns-clause-fault c = columns_short c.args.specs.now.items c.loop-at.specs.items c.args.rest.now c.loop-at.at c.loop-at.invariant.inside c.loop-at-test.false c.loop-at.invariant.spelled

pub returns-in-Err-clause-fault : goal.returns-in-Err-clause-fault
returns-in-Err-clause-fault c =
    subst (λ (f : FaultAt). (f.at ≤ length c.args.rest.now) × FaultColumns f.kind f.at c.args.rest.now) (sym c.fault_after.ensures)
    (columns_fault c.args.specs.now.items c.loop-at.specs.items c.args.rest.now c.loop-at.at c.in-Err.fault.at c.in-Err.fault.kind c.loop-at.invariant.inside c.loop-at.invariant.spelled (rw take_rest at c.in-Err.ensures.within) (rw take_rest at c.in-Err.ensures.fault))
