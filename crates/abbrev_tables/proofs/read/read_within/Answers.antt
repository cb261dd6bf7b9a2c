use Rattle.std.proofs.Common.{rules, drop, ◌≡◌, ◌≤◌, length, subst, sym}
use Rattle.std.proofs.lemmas.List.{take_rest}
use Rattle.abbrev_tables.specs.declared.read.FaultAt.{FaultAt}
use Rattle.abbrev_tables.specs.declared.read.Stop.TheVariants.{Fault as AFault}
use Rattle.leb_codec.specs.Leb.{Uleb}
use Rattle.abbrev_tables.specs.Faults.{FaultNumber, FaultTagged, FaultWithin}
use Rattle.abbrev_tables.proofs.Steps.{within_read, stop_behind, stopped}
use Rattle.abbrev_tables.proofs.read.read_within.Goals as goal

pub returns-in-Ok-read_tagged-clause-read : goal.returns-in-Ok-read_tagged-clause-read
returns-in-Ok-read_tagged-clause-read c =
    let read = rw take_rest at c.in-Ok-read_tagged.ensures.read in
    within_read c.args.specs.now.items c.read_tagged.new.specs.items c.args.rest.now c.in-Ok.code.value c.in-Ok-read_tagged.read c.in-Ok.code.end c.if-code-eq0.false c.in-Ok.ensures.read.0 c.in-Ok.ensures.read.1 read.0 read.1

pub returns-in-Err-Fault-clause-fault : goal.returns-in-Err-Fault-clause-fault
returns-in-Err-Fault-clause-fault c =
    let e : c.in-Err-Fault.field-0 ≡ AFault c.in-Err-Fault.fault = search rules in
    let fault = stopped (FaultTagged c.in-Ok.code.value) (drop c.in-Ok.code.end c.args.rest.now) c.in-Err-Fault.field-0 c.in-Err-Fault.fault e (rw take_rest at c.in-Err-Fault.ensures.fault) in
    subst (λ (f : FaultAt). (f.at ≤ length c.args.rest.now) × FaultWithin f.kind f.at c.args.rest.now) (sym c.fault_after.ensures)
    (stop_behind Uleb FaultNumber FaultTagged c.in-Ok.code.value c.in-Ok.code.end c.in-Err-Fault.fault.at c.in-Err-Fault.fault.kind c.args.rest.now c.in-Ok.ensures.read.0 c.in-Ok.ensures.read.1 fault.0 fault.1)
