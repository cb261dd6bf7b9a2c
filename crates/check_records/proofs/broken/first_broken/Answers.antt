use Rattle.std.proofs.Common.{ℕ, ◌∷◌, ◌++◌, []}
use Rattle.certificates.specs.Reading.{record_of}
use Rattle.certificates.proofs.Files.{never_broken}
use Rattle.check_records.proofs.Standing.{standing_more, standing_broken, answers_some}
use Rattle.check_records.proofs.broken.first_broken.Goals as goal

pub loop-at-preserved-in-Some : goal.loop-at-preserved-in-Some
loop-at-preserved-in-Some c =
    let (records, standing) = c.loop-at.invariant in
    (records ++ record_of c.in-Some.read.proof ∷ [], standing_more c.args.classes c.args.certificate.now c.loop-at.at records (record_of c.in-Some.read.proof) c.in-Some.read.end standing (rw c.in-Some.is at c.in_ok-read.ensures.read))

pub loop-at-preserved-in-Some-2 : goal.loop-at-preserved-in-Some-2
loop-at-preserved-in-Some-2 c =
    let (records, standing) = c.loop-at.invariant in
    (records ++ record_of c.in-Some.read.proof ∷ [], standing_more c.args.classes c.args.certificate.now c.loop-at.at records (record_of c.in-Some.read.proof) c.in-Some.read.end standing (rw c.in-Some.is at c.in_ok-read.ensures.read))

pub loop-at-preserved : goal.loop-at-preserved
loop-at-preserved c =
    let (records, standing) = c.loop-at.invariant in
    (records ++ record_of c.in-Some.read.proof ∷ [], standing_more c.args.classes c.args.certificate.now c.loop-at.at records (record_of c.in-Some.read.proof) c.in-Some.read.end standing (rw c.in-Some.is at c.in_ok-read.ensures.read))

pub returns-in-None-clause-whole : goal.returns-in-None-clause-whole
returns-in-None-clause-whole c =
    let (records, standing) = c.loop-at.invariant in
    let broken = standing_broken c.args.classes c.args.certificate.now c.loop-at.at records standing c.loop-at-test.true (rw c.in-None.is at c.in_ok-read.ensures.read) in
    answers_some ℕ c.loop-at.at (λ (others, file). never_broken c.args.classes c.args.certificate.now others c.loop-at.at file broken)
