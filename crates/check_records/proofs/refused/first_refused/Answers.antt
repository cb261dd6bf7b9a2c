use Rattle.std.proofs.Common.{arith}
use Rattle.certificates.specs.Reading.{record_of}
use Rattle.same_meaning.specs.declared.reason.Reason.{Reason}
use Rattle.check_records.specs.declared.parts.Part.TheVariants.{Program}
use Rattle.check_records.proofs.PartLists.{programs_few}
use Rattle.check_records.proofs.RefusedLaws.{accepted_start, next_there, next_stands, next_kind, next_behind, next_accepted, next_refused, all_accepted, refused_apart}
use Rattle.check_records.proofs.Standing.{answers_none, answers_some}
use Rattle.unit_slots.proofs.StandingOnce.{standing_once}
use Rattle.check_records.proofs.refused.first_refused.Goals as goal

pub overflow_cast-programs : goal.overflow_cast-programs
overflow_cast-programs c =
    omega (arith, c.searched_programs-programs.ensures, programs_few c.args.classes c.args.written.now c.requires.world.0 c.requires.world.1)

pub loop-number-init : goal.loop-number-init
loop-number-init c = accepted_start c.args.classes c.args.written.now.image c.args.certificate.now c.requires.each

pub read_record-requires : goal.read_record-requires
read_record-requires c = next_there c.args.classes c.args.written.now c.requires.world c.args.certificate.now c.requires.each c.deref-part-items.result.now c.in_ok-parts.parts.items c.deref-part-items.ensures.value c.in_ok-parts.ensures.parts c.loop-number.number c.loop-number.at c.loop-number.invariant c.loop-number-test.true

pub unreachable-requires : goal.unreachable-requires
unreachable-requires c = next_stands c.args.classes c.args.written.now c.requires.world c.args.certificate.now c.requires.each c.deref-part-items.result.now c.in_ok-parts.parts.items c.deref-part-items.ensures.value c.in_ok-parts.ensures.parts c.loop-number.number c.loop-number.at c.loop-number.invariant c.loop-number-test.true (rw c.in_default.is at c.in_ok-read.ensures.read)

pub judge-requires-clause-kind : goal.judge-requires-clause-kind
judge-requires-clause-kind c = next_kind c.args.classes c.args.written.now c.requires.world c.args.certificate.now c.requires.each c.deref-part-items.result.now c.in_ok-parts.parts.items c.deref-part-items.ensures.value c.in_ok-parts.ensures.parts c.loop-number.number c.loop-number.at c.loop-number.invariant (Program 0) c.loop-number-test.true (record_of c.in-Some.read.proof) c.in-Some.read.end (rw c.in-Some.is at c.in_ok-read.ensures.read)

pub reason_of-requires : goal.reason_of-requires
reason_of-requires c =
    next_behind c.args.classes c.args.written.now c.requires.world c.args.certificate.now c.requires.each c.deref-part-items.result.now c.in_ok-parts.parts.items c.deref-part-items.ensures.value c.in_ok-parts.ensures.parts c.loop-number.number c.loop-number.at c.loop-number.invariant (Program 0) c.loop-number-test.true c.searched_programs-programs.result c.searched_programs-programs.ensures

pub returns-in-Some-2-clause-refused : goal.returns-in-Some-2-clause-refused
returns-in-Some-2-clause-refused c =
    next_refused c.args.classes c.args.written.now c.requires.world c.args.certificate.now c.requires.each c.deref-part-items.result.now c.in_ok-parts.parts.items c.deref-part-items.ensures.value c.in_ok-parts.ensures.parts c.loop-number.number c.loop-number.at c.loop-number.invariant (Program 0) c.loop-number-test.true (record_of c.in-Some.read.proof) c.in-Some.read.end (rw c.in-Some.is at c.in_ok-read.ensures.read) c.in-Some-2.n c.reason_of.result c.searched_programs-programs.result c.searched_programs-programs.ensures (rw c.in-Some-2.is at c.in_ok-n.ensures) (c.reason_of.ensures c.args.classes)

pub returns-in-Some-2-clause-accepted : goal.returns-in-Some-2-clause-accepted
returns-in-Some-2-clause-accepted c =
    let refused = next_refused c.args.classes c.args.written.now c.requires.world c.args.certificate.now c.requires.each c.deref-part-items.result.now c.in_ok-parts.parts.items c.deref-part-items.ensures.value c.in_ok-parts.ensures.parts c.loop-number.number c.loop-number.at c.loop-number.invariant (Program 0) c.loop-number-test.true (record_of c.in-Some.read.proof) c.in-Some.read.end (rw c.in-Some.is at c.in_ok-read.ensures.read) c.in-Some-2.n c.reason_of.result c.searched_programs-programs.result c.searched_programs-programs.ensures (rw c.in-Some-2.is at c.in_ok-n.ensures) (c.reason_of.ensures c.args.classes) in
    answers_some Reason c.reason_of.result (refused_apart c.args.classes c.args.written.now.image c.args.certificate.now c.reason_of.result (standing_once c.args.written.now.image) refused)

pub loop-number-preserved : goal.loop-number-preserved
loop-number-preserved c = next_accepted c.args.classes c.args.written.now c.requires.world c.args.certificate.now c.requires.each c.deref-part-items.result.now c.in_ok-parts.parts.items c.deref-part-items.ensures.value c.in_ok-parts.ensures.parts c.loop-number.number c.loop-number.at c.loop-number.invariant (Program 0) c.loop-number-test.true (record_of c.in-Some.read.proof) c.in-Some.read.end (rw c.in-Some.is at c.in_ok-read.ensures.read) (rw c.in_default-2.is at c.in_ok-n.ensures)

pub returns-clause-accepted : goal.returns-clause-accepted
returns-clause-accepted c = answers_none Reason (all_accepted c.args.classes c.args.written.now c.requires.world c.args.certificate.now c.requires.each c.deref-part-items.result.now c.in_ok-parts.parts.items c.deref-part-items.ensures.value c.in_ok-parts.ensures.parts c.loop-number.number c.loop-number.at c.loop-number.invariant c.loop-number-test.false)
