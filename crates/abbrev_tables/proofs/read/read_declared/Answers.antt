use Rattle.std.proofs.Common.{rules, ◌≡◌, arith}
use Rattle.abbrev_tables.specs.declared.read.Stop.TheVariants.{Fault as AFault}
use Rattle.abbrev_tables.specs.Faults.{FaultWithin}
use Rattle.abbrev_tables.proofs.Steps.{unknown_at_first, at_its_place, specs_grow, stopped}
use Rattle.abbrev_tables.proofs.read.read_declared.Goals as goal

pub returns-in-Ok-clause-grows : goal.returns-in-Ok-clause-grows
returns-in-Ok-clause-grows c = specs_grow c.args.rest.now c.args.specs.now.items c.read_within.new.specs.items c.in-Ok.read c.in-Ok.ensures.read

pub returns-in-FormUnknown-clause-fault : goal.returns-in-FormUnknown-clause-fault
returns-in-FormUnknown-clause-fault c =
    let e : c.in-Err-Fault.field-0 ≡ AFault c.in-Err-Fault.fault = search rules in
    let fault = stopped FaultWithin c.args.rest.now c.in-Err-Fault.field-0 c.in-Err-Fault.fault e c.in-Err-Fault.ensures.fault in
    (omega arith, unknown_at_first c.in-Err-Fault.fault.kind c.in-Err-Fault.fault.at c.args.rest.now c.in-FormUnknown.is fault.1)

pub returns-in_default : goal.returns-in_default
returns-in_default c =
    let e : c.in-Err-Fault.field-0 ≡ AFault c.in-Err-Fault.fault = search rules in
    let fault = stopped FaultWithin c.args.rest.now c.in-Err-Fault.field-0 c.in-Err-Fault.fault e c.in-Err-Fault.ensures.fault in
    record {
      read = tt;
      grows = tt;
      fault = (fault.0, at_its_place c.in-Err-Fault.fault.kind c.in-Err-Fault.fault.at c.args.rest.now c.in_default.not-FormUnknown fault.1);
    }
