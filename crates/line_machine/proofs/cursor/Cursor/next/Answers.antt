use Rattle.std.proofs.Common.{subst, sym}
use Rattle.line_machine.specs.Rows.{rows_in}
use Rattle.line_machine.specs.Faults.{OpcodesFault}
use Rattle.dw_base.specs.Refusals.{IsFaultOf}
use Rattle.line_machine.specs.Cursors.{Progress, Stands, Answers, NextFault}
use Rattle.line_machine.proofs.Passing.{stands_on, stands_stopped, next_fault}
use Rattle.line_machine.proofs.cursor.Cursor.next.Goals as goal

pub returns-in-Ok-clause-stands : goal.returns-in-Ok-clause-stands
returns-in-Ok-clause-stands c =
    let stands = subst (λ (z : Progress). Stands c.args.section.now z) (sym c.self.view_is) c.requires.stands in
    let old = c.self.inside in
    stands_on c.args.section.now old.head old.origin old.place c.in-Ok.step.place old.stopped (rows_in c.in-Ok.step.row) stands c.in-Ok.ensures.passed

pub returns-in-Ok-clause-row : goal.returns-in-Ok-clause-row
returns-in-Ok-clause-row c =
    let old = c.self.inside in
    subst (λ (z : Progress). Answers c.args.section.now z (record { head = old.head; origin = old.origin; place = c.in-Ok.step.place; stopped = old.stopped }) c.in-Ok.step.row) c.self.view_is (record { passes = c.in-Ok.ensures.passed; at_end = c.in-Ok.ensures.at_end; ended = c.in-Ok.ensures.ended })

pub returns-in-Err-clause-stands : goal.returns-in-Err-clause-stands
returns-in-Err-clause-stands c =
    let stands = subst (λ (z : Progress). Stands c.args.section.now z) (sym c.self.view_is) c.requires.stands in
    let old = c.self.inside in
    stands_stopped c.args.section.now old.head old.origin old.place old.stopped c.in-Err.fault stands c.in-Err.ensures.fault

pub returns-in-Err-clause-fault : goal.returns-in-Err-clause-fault
returns-in-Err-clause-fault c =
    let stands = subst (λ (z : Progress). Stands c.args.section.now z) (sym c.self.view_is) c.requires.stands in
    let old = c.self.inside in
    subst (λ (z : Progress). IsFaultOf (OpcodesFault c.args.section.now z.head) z.origin c.in-Err.fault) c.self.view_is (next_fault c.args.section.now old.head old.place old.origin c.in-Err.fault stands.opcodes stands.passed c.in-Err.ensures.fault)

pub returns-in-Err-clause-reached : goal.returns-in-Err-clause-reached
returns-in-Err-clause-reached c =
    λ _. subst (λ (z : Progress). IsFaultOf (NextFault c.args.section.now z.head z.place) z.origin c.in-Err.fault) c.self.view_is c.in-Err.ensures.fault
