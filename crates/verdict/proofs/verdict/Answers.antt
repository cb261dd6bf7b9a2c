use Rattle.std.proofs.Common.{ap}
use Rattle.std.specs.Prelude.{is_some}
use Rattle.verdict.specs.Accepts.{IsAllLeast, IsAllKept}
use Rattle.verdict.proofs.KeptParts.{all_kept}
use Rattle.verdict.proofs.LeastLayouts.{least_layouts}
use Rattle.verdict.proofs.LeastLines.{least_lines}
use Rattle.verdict.proofs.LeastLists.{least_lists}
use Rattle.verdict.proofs.Reasons.{broken_refused, stray_refused, right_so_far, stray_first, all_accepted, all_first, all_least}
use Rattle.verdict.proofs.verdict.Goals as goal

pub returns-in-Some-clause-accepted : goal.returns-in-Some-clause-accepted
returns-in-Some-clause-accepted c =
    broken_refused c.args.classes c.args.before.now.image c.args.after.now.image c.args.certificate.now c.in_ok-place.field-0 c.in-Some.place c.in_ok-place.ensures.whole c.in-Some.is

pub returns-in-Some-4-clause-accepted : goal.returns-in-Some-4-clause-accepted
returns-in-Some-4-clause-accepted c =
    stray_refused c.args.classes c.args.before.now.image c.args.after.now.image c.args.certificate.now c.in_ok-place-3.field-0 c.in-Some-4.place c.in_ok-place-3.ensures.each c.in-Some-4.is

pub returns-in-Some-4-clause-first : goal.returns-in-Some-4-clause-first
returns-in-Some-4-clause-first c =
    stray_first c.args.classes c.args.before.now.image c.args.after.now.image c.args.certificate.now c.in_ok-place.field-0 c.in_ok-place.ensures.whole c.in_default.is c.in_ok-reason.field-0 c.in_ok-reason.ensures.same c.in_default-2.is c.in_ok-place-2.field-0 c.in_ok-place-2.ensures.tidy c.in_default-3.is c.in_ok-place-3.field-0 c.in-Some-4.place c.in_ok-place-3.ensures.stray c.in-Some-4.is

pub returns-clause-accepted : goal.returns-clause-accepted
returns-clause-accepted c =
    all_accepted c.args.classes c.args.before.now.image c.args.after.now.image c.args.certificate.now c.in_ok-place.field-0 c.in_ok-place.ensures.whole c.in_default.is c.in_ok-reason.field-0 c.in_ok-reason.ensures.same c.in_default-2.is c.in_ok-place-2.field-0 c.in_ok-place-2.ensures.tidy c.in_default-3.is c.requires.before.valid c.requires.after.valid c.first_refused.result c.first_refused.ensures.accepted

pub returns-clause-first : goal.returns-clause-first
returns-clause-first c =
    all_first c.args.classes c.args.before.now.image c.args.after.now.image c.args.certificate.now c.in_ok-place.field-0 c.in_ok-place.ensures.whole c.in_default.is c.in_ok-reason.field-0 c.in_ok-reason.ensures.same c.in_default-2.is c.in_ok-place-2.field-0 c.in_ok-place-2.ensures.tidy c.in_default-3.is c.first_refused.result c.first_refused.ensures.refused

pub returns-clause-least : goal.returns-clause-least
returns-clause-least c =
    let classes = c.args.classes in
    let file = c.args.before.now.image in
    let written = c.args.after.now.image in
    let certificate = c.args.certificate.now in
    let tidy = ap is_some c.in_default-3.is in
    all_least classes file written certificate c.in_ok-place.field-0 c.in_ok-place.ensures.whole c.in_default.is c.in_ok-reason.field-0 c.in_ok-reason.ensures.same c.in_default-2.is c.in_ok-place-2.field-0 c.in_ok-place-2.ensures.tidy c.in_default-3.is (IsAllLeast classes written) c.first_refused.result c.first_refused.ensures.accepted (λ is_tidy accepted. record {
      lines = least_lines classes file written certificate c.sections_are_bytes.ensures.lines is_tidy accepted;
      lists = least_lists classes file written certificate c.sections_are_bytes.ensures.addresses is_tidy accepted;
      columns = c.in_ok-place-2.ensures.columns tidy;
      codes = c.in_ok-place-2.ensures.codes tidy;
      layouts = least_layouts classes written certificate c.requires.after.valid accepted;
    })

pub returns-clause-kept : goal.returns-clause-kept
returns-clause-kept c =
    let classes = c.args.classes in
    let file = c.args.before.now.image in
    let written = c.args.after.now.image in
    let certificate = c.args.certificate.now in
    let so_far = right_so_far classes file written certificate c.in_ok-place.field-0 c.in_ok-place.ensures.whole c.in_default.is c.in_ok-reason.field-0 c.in_ok-reason.ensures.same c.in_default-2.is c.in_ok-place-2.field-0 c.in_ok-place-2.ensures.tidy c.in_default-3.is in
    all_least classes file written certificate c.in_ok-place.field-0 c.in_ok-place.ensures.whole c.in_default.is c.in_ok-reason.field-0 c.in_ok-reason.ensures.same c.in_default-2.is c.in_ok-place-2.field-0 c.in_ok-place-2.ensures.tidy c.in_default-3.is (IsAllKept classes file written) c.first_refused.result c.first_refused.ensures.accepted (λ is_tidy accepted.
    all_kept classes file written c.requires.before.r accepted.s c.requires.before.read accepted.judged.read so_far.same is_tidy)
