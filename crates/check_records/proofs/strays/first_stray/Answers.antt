use Rattle.std.proofs.Common.{ℕ, true≢false, sym, ◌∙◌, arith}
use Rattle.certificates.specs.Reading.{record_of}
use Rattle.check_records.proofs.Standing.{standing_inside, answers_none, answers_some}
use Rattle.check_records.proofs.StrayLaws.{matched_start, found_missing, found_stands, found_other, found_more, found_left, found_all, never_both}
use Rattle.check_records.proofs.strays.first_stray.Goals as goal

pub loop-part-init : goal.loop-part-init
loop-part-init c = matched_start c.args.classes c.args.certificate.now c.requires.whole

pub returns-then-at-certificate-clause-stray : goal.returns-then-at-certificate-clause-stray
returns-then-at-certificate-clause-stray c =
    let inside = standing_inside c.args.classes c.args.certificate.now c.loop-part.at c.loop-part.invariant.records c.loop-part.invariant.standing in
    found_missing c.args.classes c.args.written.now c.requires.world c.args.certificate.now c.requires.whole c.deref-part-items.result.now c.in_ok-parts.parts.items c.deref-part-items.ensures.value c.in_ok-parts.ensures.parts c.loop-part.part-index c.loop-part.at c.loop-part.invariant c.loop-part-test.true c.if-at-certificate.true

pub returns-then-at-certificate-clause-each : goal.returns-then-at-certificate-clause-each
returns-then-at-certificate-clause-each c =
    let inside = standing_inside c.args.classes c.args.certificate.now c.loop-part.at c.loop-part.invariant.records c.loop-part.invariant.standing in
    let stray = found_missing c.args.classes c.args.written.now c.requires.world c.args.certificate.now c.requires.whole c.deref-part-items.result.now c.in_ok-parts.parts.items c.deref-part-items.ensures.value c.in_ok-parts.ensures.parts c.loop-part.part-index c.loop-part.at c.loop-part.invariant c.loop-part-test.true c.if-at-certificate.true in
    answers_some ℕ c.loop-part.at (never_both c.args.classes c.args.written.now.image c.args.certificate.now c.loop-part.at stray)

pub read_record-requires : goal.read_record-requires
read_record-requires c = let inside = standing_inside c.args.classes c.args.certificate.now c.loop-part.at c.loop-part.invariant.records c.loop-part.invariant.standing in omega (arith, inside)

pub unreachable-requires : goal.unreachable-requires
unreachable-requires c =
    let inside = standing_inside c.args.classes c.args.certificate.now c.loop-part.at c.loop-part.invariant.records c.loop-part.invariant.standing in
    found_stands c.args.classes c.args.written.now c.requires.world c.args.certificate.now c.requires.whole c.deref-part-items.result.now c.in_ok-parts.parts.items c.deref-part-items.ensures.value c.in_ok-parts.ensures.parts c.loop-part.part-index c.loop-part.at c.loop-part.invariant (omega (arith, inside, c.if-at-certificate.false)) (rw c.in_default.is at c.in_ok-read.ensures.read)

pub returns-then-not-has-clause-stray : goal.returns-then-not-has-clause-stray
returns-then-not-has-clause-stray c =
    let inside = standing_inside c.args.classes c.args.certificate.now c.loop-part.at c.loop-part.invariant.records c.loop-part.invariant.standing in
    found_other c.args.classes c.args.written.now c.requires.world c.args.certificate.now c.requires.whole c.deref-part-items.result.now c.in_ok-parts.parts.items c.deref-part-items.ensures.value c.in_ok-parts.ensures.parts c.loop-part.part-index c.loop-part.at c.loop-part.invariant _ (record_of c.in-Some.read.proof) c.in-Some.read.end c.loop-part-test.true (omega (arith, inside, c.if-at-certificate.false)) (rw c.in-Some.is at c.in_ok-read.ensures.read) (λ is. true≢false (sym (c.has.ensures.1 is) ∙ c.if-not-has.true))

pub returns-then-not-has-clause-each : goal.returns-then-not-has-clause-each
returns-then-not-has-clause-each c =
    let inside = standing_inside c.args.classes c.args.certificate.now c.loop-part.at c.loop-part.invariant.records c.loop-part.invariant.standing in
    let stray = found_other c.args.classes c.args.written.now c.requires.world c.args.certificate.now c.requires.whole c.deref-part-items.result.now c.in_ok-parts.parts.items c.deref-part-items.ensures.value c.in_ok-parts.ensures.parts c.loop-part.part-index c.loop-part.at c.loop-part.invariant _ (record_of c.in-Some.read.proof) c.in-Some.read.end c.loop-part-test.true (omega (arith, inside, c.if-at-certificate.false)) (rw c.in-Some.is at c.in_ok-read.ensures.read) (λ is. true≢false (sym (c.has.ensures.1 is) ∙ c.if-not-has.true)) in
    answers_some ℕ c.loop-part.at (never_both c.args.classes c.args.written.now.image c.args.certificate.now c.loop-part.at stray)

pub loop-part-preserved : goal.loop-part-preserved
loop-part-preserved c =
    found_more c.args.classes c.args.written.now c.requires.world c.args.certificate.now c.requires.whole c.deref-part-items.result.now c.in_ok-parts.parts.items c.deref-part-items.ensures.value c.in_ok-parts.ensures.parts c.loop-part.part-index c.loop-part.at c.loop-part.invariant _ (record_of c.in-Some.read.proof) c.in-Some.read.end c.loop-part-test.true (rw c.in-Some.is at c.in_ok-read.ensures.read) (c.has.ensures.0 c.if-not-has.false)

pub returns-then-at-certificate-2-clause-stray : goal.returns-then-at-certificate-2-clause-stray
returns-then-at-certificate-2-clause-stray c =
    let inside = standing_inside c.args.classes c.args.certificate.now c.loop-part.at c.loop-part.invariant.records c.loop-part.invariant.standing in
    found_left c.args.classes c.args.written.now c.requires.world c.args.certificate.now c.requires.whole c.deref-part-items.result.now c.in_ok-parts.parts.items c.deref-part-items.ensures.value c.in_ok-parts.ensures.parts c.loop-part.part-index c.loop-part.at c.loop-part.invariant c.loop-part-test.false c.if-at-certificate-2.true

pub returns-then-at-certificate-2-clause-each : goal.returns-then-at-certificate-2-clause-each
returns-then-at-certificate-2-clause-each c =
    let inside = standing_inside c.args.classes c.args.certificate.now c.loop-part.at c.loop-part.invariant.records c.loop-part.invariant.standing in
    let stray = found_left c.args.classes c.args.written.now c.requires.world c.args.certificate.now c.requires.whole c.deref-part-items.result.now c.in_ok-parts.parts.items c.deref-part-items.ensures.value c.in_ok-parts.ensures.parts c.loop-part.part-index c.loop-part.at c.loop-part.invariant c.loop-part-test.false c.if-at-certificate-2.true in
    answers_some ℕ c.loop-part.at (never_both c.args.classes c.args.written.now.image c.args.certificate.now c.loop-part.at stray)

pub returns-clause-each : goal.returns-clause-each
returns-clause-each c =
    answers_none ℕ (found_all c.args.classes c.args.written.now c.requires.world c.args.certificate.now c.requires.whole c.deref-part-items.result.now c.in_ok-parts.parts.items c.deref-part-items.ensures.value c.in_ok-parts.ensures.parts c.loop-part.part-index c.loop-part.at c.loop-part.invariant c.loop-part-test.false c.if-at-certificate-2.false)
