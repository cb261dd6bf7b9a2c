use Rattle.std.proofs.Common.{◌≡◌, map, inl, refl, true, false}
use Rattle.dw_base.specs.Classes.{every}
use Rattle.certificates.specs.Reading.{record_of}
use Rattle.certificates.proofs.Gathering.{standing_more, standing_all, standing_broken}
use Rattle.certificates.proofs.Files.{never_broken}
use Rattle.certificates.proofs.Spellings.{all_writable}
use Rattle.certificates.proofs.reading.read.Goals as goal

pub returns-clause-records : goal.returns-clause-records
returns-clause-records c = standing_all c.args.bytes.now c.loop-at.at c.loop-at.proofs.items c.loop-at.invariant c.loop-at-test.false

pub returns-in_default-clause-fault : goal.returns-in_default-clause-fault
returns-in_default-clause-fault c = standing_broken c.args.bytes.now c.loop-at.at c.loop-at.proofs.items c.loop-at.invariant c.loop-at-test.true (rw c.in_default.is at c.in_ok-read.ensures.read)

pub loop-at-preserved : goal.loop-at-preserved
loop-at-preserved c = rw c.in_ok-push.ensures (standing_more c.args.bytes.now c.loop-at.at c.loop-at.proofs.items c.in-Some.read.proof c.in-Some.read.end c.loop-at.invariant (rw c.in-Some.is at c.in_ok-read.ensures.read))

pub returns-clause-writable : goal.returns-clause-writable
returns-clause-writable c =
    let file = standing_all c.args.bytes.now c.loop-at.at c.loop-at.proofs.items c.loop-at.invariant c.loop-at-test.false in
    all_writable c.loop-at.proofs.items file.0 file.1

pub returns-clause-whole : goal.returns-clause-whole
returns-clause-whole c =
    λ place. never_broken every c.args.bytes.now (map record_of c.loop-at.proofs.items) place (standing_all c.args.bytes.now c.loop-at.at c.loop-at.proofs.items c.loop-at.invariant c.loop-at-test.false)

pub returns-then-not-begins-clause-fault : goal.returns-then-not-begins-clause-fault
returns-then-not-begins-clause-fault c =
    let begins = rw c.every.ensures at c.begins.ensures in
    inl (λ body e. let no : false ≡ true = (rw c.if-not-begins.true at begins.1 (body, e)) in cc, refl)
