use Rattle.std.proofs.Common.{refl}
use Rattle.dw_base.specs.declared.mem_host.CallKind.TheVariants.{Read, Write}
use Rattle.dw_base.proofs.MemHostLemmas.{faults_of-other, say_faults_of-other, HasCause-noted}
use Rattle.dw_base.proofs.mem_host.MemHostHost.begin.Goals as goal

pub returns-then-is_due-clause-reads : goal.returns-then-is_due-clause-reads
returns-then-is_due-clause-reads c =
    let noted = rw c.is_due.ensures.others at c.note.ensures.failed in
    λ f. faults_of-other Read Write _ f _ _ _ noted refl

pub returns-then-is_due-clause-writes : goal.returns-then-is_due-clause-writes
returns-then-is_due-clause-writes c =
    let noted = rw c.is_due.ensures.others at c.note.ensures.failed in
    HasCause-noted Write _ _ _ _ _ refl c.note.ensures.room noted

pub returns-then-is_due-clause-says : goal.returns-then-is_due-clause-says
returns-then-is_due-clause-says c =
    let noted = rw c.is_due.ensures.others at c.note.ensures.failed in
    say_faults_of-other Write _ _ _ _ noted refl
