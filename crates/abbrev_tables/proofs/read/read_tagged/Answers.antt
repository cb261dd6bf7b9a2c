use Rattle.std.proofs.Common.{rules, drop, ◌≡◌, ◌≤◌, length, subst, sym}
use Rattle.std.proofs.lemmas.List.{take_rest}
use Rattle.abbrev_tables.specs.declared.read.FaultAt.{FaultAt}
use Rattle.abbrev_tables.specs.declared.read.Stop.TheVariants.{Fault as AFault}
use Rattle.abbrev_tables.specs.Tables.{SpellsName}
use Rattle.abbrev_tables.specs.Faults.{FaultName, FaultFlagged, FaultTagged}
use Rattle.abbrev_tables.proofs.Steps.{tagged_read, stop_behind, stopped}
use Rattle.abbrev_tables.proofs.read.read_tagged.Goals as goal

pub returns-in-Ok-read_flagged-clause-read : goal.returns-in-Ok-read_flagged-clause-read
returns-in-Ok-read_flagged-clause-read c =
    let read = rw take_rest at c.in-Ok-read_flagged.ensures.read in
    tagged_read c.args.specs.now.items c.read_flagged.new.specs.items c.args.rest.now c.in-Ok.tag.value c.in-Ok-read_flagged.read.children c.in-Ok.tag.end c.in-Ok-read_flagged.read.end c.in-Ok.ensures.read.0 c.in-Ok.ensures.read.1 read.0 read.1

pub returns-in-Err-Fault-clause-fault : goal.returns-in-Err-Fault-clause-fault
returns-in-Err-Fault-clause-fault c =
    let e : c.in-Err-Fault.field-0 ≡ AFault c.in-Err-Fault.fault = search rules in
    let fault = stopped FaultFlagged (drop c.in-Ok.tag.end c.args.rest.now) c.in-Err-Fault.field-0 c.in-Err-Fault.fault e (rw take_rest at c.in-Err-Fault.ensures.fault) in
    let stop = stop_behind SpellsName FaultName (λ _. FaultFlagged) c.in-Ok.tag.value c.in-Ok.tag.end c.in-Err-Fault.fault.at c.in-Err-Fault.fault.kind c.args.rest.now c.in-Ok.ensures.read.0 c.in-Ok.ensures.read.1 fault.0 fault.1 in
    subst (λ (f : FaultAt). (f.at ≤ length c.args.rest.now) × FaultTagged c.args.code f.kind f.at c.args.rest.now) (sym c.fault_after.ensures) (stop.0, (c.requires, stop.1))
