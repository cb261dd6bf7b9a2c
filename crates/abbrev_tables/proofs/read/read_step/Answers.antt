use Rattle.std.proofs.Common.{subst, sym}
use Rattle.std.proofs.lemmas.List.{take_rest}
use Rattle.abbrev_tables.specs.declared.read.FaultAt.{FaultAt}
use Rattle.abbrev_tables.specs.Tables.{SpellsName}
use Rattle.abbrev_tables.specs.Faults.{FaultName, FaultCode, FaultColumn}
use Rattle.abbrev_tables.proofs.Steps.{step_read, fault_behind}
use Rattle.abbrev_tables.proofs.read.read_step.Goals as goal

pub returns-in-Ok-read_code-clause-read : goal.returns-in-Ok-read_code-clause-read
returns-in-Ok-read_code-clause-read c = step_read c.in-Ok.name.value c.args.rest.now c.in-Ok.name.end c.in-Ok-read_code.read c.in-Ok.ensures.read.0 c.in-Ok.ensures.read.1 (rw take_rest at c.in-Ok-read_code.ensures.read)

pub returns-in-Err-read_code-clause-fault : goal.returns-in-Err-read_code-clause-fault
returns-in-Err-read_code-clause-fault c =
    subst (λ (f : FaultAt). FaultColumn f.kind f.at c.args.rest.now) (sym c.fault_after.ensures)
    (fault_behind SpellsName FaultName FaultCode c.in-Ok.name.value c.in-Ok.name.end c.in-Err-read_code.fault.at c.in-Err-read_code.fault.kind c.args.rest.now c.in-Ok.ensures.read.0 c.in-Ok.ensures.read.1 (rw take_rest at c.in-Err-read_code.ensures.fault))
