use Rattle.std.proofs.Common.{◌≡◌, ◌+◌, ◌∷◌, [], List, length, arith, ap, refl, sym, subst, ◌∙◌}
use Rattle.std.specs.Prelude.{Option}
use Rattle.std.proofs.lemmas.List.{length-append}
use Rattle.std.proofs.lemmas.Result.{err_from_is_err_and}
use Rattle.line_machine.specs.declared.registers.Row.{Row}
use Rattle.line_machine.specs.Rows.{rows_in}
use Rattle.dw_base.specs.declared.fault.Fault.{Fault}
use Rattle.dw_base.specs.Refusals.{IsFaultOf}
use Rattle.line_machine.specs.Heads.{program_of}
use Rattle.line_machine.specs.Faults.{ProgramFault}
use Rattle.line_machine.specs.Cursors.{PassesOn, at_start}
use Rattle.line_machine.proofs.Passing.{near_start, next_fault, program_fault}
use Rattle.line_machine.proofs.Listing.{Listed, listed_none, listed_on, listed_all, listed_long}
use Rattle.line_machine.proofs.Programs.{based_of, program_whole}
use Rattle.line_machine.proofs.table.rows.Goals as goal

pub loop-rows-init : goal.loop-rows-init
loop-rows-init c =
    let head = c.args.head.now in
    let e : c.start-place.result ≡ at_start head = c.start-place.ensures head refl in
    let none : length c.new-rows.result.items ≡ 0 = ap length c.new-rows.ensures.items in
    let at : c.start-place.result.at ≡ 0 = ap (λ z. z.at) e in
    record {
      inside = omega arith;
      near = near_start head c.start-place.result e;
      listed = subst (λ (z : List Row). Listed head (program_of c.args.section.now head) c.start-place.result z) (sym c.new-rows.ensures.items) (listed_none head (program_of c.args.section.now head) c.start-place.result e);
      few = omega arith;
    }

pub returns-in_default-clause-rows : goal.returns-in_default-clause-rows
returns-in_default-clause-rows c =
    let head = c.args.head.now in
    let program = program_of c.args.section.now head in
    let passed = subst (λ (z : Option Row). PassesOn head program c.loop-rows.place c.in_ok-step.step.place (rows_in z)) c.in_default.is c.in_ok-step.ensures.passed in
    listed_all head program c.loop-rows.place c.in_ok-step.step.place c.loop-rows.rows.items c.loop-rows.invariant.listed passed (c.in_ok-step.ensures.at_end c.in_default.is) (c.in_ok-step.ensures.ended c.in_default.is)

pub returns-in_err-step-clause-fault : goal.returns-in_err-step-clause-fault
returns-in_err-step-clause-fault c =
    let p = err_from_is_err_and c.from_residual.result c.from_residual.ensures.1 in
    let head = c.args.head.now in
    let listed = c.loop-rows.invariant.listed in
    rw (p.1, p.2) (program_fault c.args.section.now head c.args.origin c.in_err-step.field-0.0 (next_fault c.args.section.now head c.loop-rows.place c.args.origin c.in_err-step.field-0.0 listed.opcodes listed.passed c.in_err-step.ensures.fault))

pub returns-then-len-ge-ROW_LIMIT-clause-fault : goal.returns-then-len-ge-ROW_LIMIT-clause-fault
returns-then-len-ge-ROW_LIMIT-clause-fault c =
    let head = c.args.head.now in
    let program = program_of c.args.section.now head in
    let passed = subst (λ (z : Option Row). PassesOn head program c.loop-rows.place c.in_ok-step.step.place (rows_in z)) c.in-Some.is c.in_ok-step.ensures.passed in
    let long = listed_long head program c.loop-rows.place c.in_ok-step.step.place c.loop-rows.rows.items c.in-Some.row c.loop-rows.invariant.listed passed (omega (arith, c.len.ensures)) in
    subst (λ (f : Fault). IsFaultOf (ProgramFault c.args.section.now head) c.args.origin f) (sym c.too_long.ensures) (head.at, refl, (refl, long))

pub loop-rows-preserved : goal.loop-rows-preserved
loop-rows-preserved c =
    let head = c.args.head.now in
    let program = program_of c.args.section.now head in
    let passed = subst (λ (z : Option Row). PassesOn head program c.loop-rows.place c.in_ok-step.step.place (rows_in z)) c.in-Some.is c.in_ok-step.ensures.passed in
    let all = listed_on head program c.loop-rows.place c.in_ok-step.step.place c.loop-rows.rows.items (c.in-Some.row ∷ []) c.loop-rows.invariant.listed passed in
    let size : length c.push.new.rows.items ≡ length c.loop-rows.rows.items + 1 = ap length c.in_ok-push.ensures ∙ length-append c.loop-rows.rows.items (c.in-Some.row ∷ []) in
    record {
      inside = c.in_ok-step.ensures.within.1;
      near = c.in_ok-step.ensures.near;
      listed = subst (λ (z : List Row). Listed head program c.in_ok-step.step.place z) (sym c.in_ok-push.ensures) all;
      few = omega (arith, c.len.ensures);
    }

pub returns-in_default-clause-whole : goal.returns-in_default-clause-whole
returns-in_default-clause-whole c =
    let head = c.args.head.now in
    let program = program_of c.args.section.now head in
    let passed = subst (λ (z : Option Row). PassesOn head program c.loop-rows.place c.in_ok-step.step.place (rows_in z)) c.in_default.is c.in_ok-step.ensures.passed in
    let gives = listed_all head program c.loop-rows.place c.in_ok-step.step.place c.loop-rows.rows.items c.loop-rows.invariant.listed passed (c.in_ok-step.ensures.at_end c.in_default.is) (c.in_ok-step.ensures.ended c.in_default.is) in
    program_whole c.args.section.now head c.loop-rows.rows.items (based_of c.args.section.now head c.requires.head) gives c.loop-rows.invariant.few
