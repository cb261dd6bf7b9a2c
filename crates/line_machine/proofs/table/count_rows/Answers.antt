use Rattle.std.proofs.Common.{refl, sym, subst, arith, rules}
use Rattle.dw_base.specs.declared.fault.Fault.{Fault}
use Rattle.dw_base.specs.Refusals.{IsFaultOf}
use Rattle.line_machine.specs.Faults.{ProgramFault}
use Rattle.line_machine.proofs.Counting.{counting_none, counting_on, counting_all, counting_long, counting_fault, counted_whole}
use Rattle.line_machine.proofs.table.count_rows.Goals as goal

pub loop-count-init : goal.loop-count-init
loop-count-init c = record {
  counting = counting_none c.args.section.now c.args.head.now c.args.origin c.new-cursor.result (c.new-cursor.ensures.stands c.args.section.now c.requires.head) c.new-cursor.ensures.head c.new-cursor.ensures.origin c.new-cursor.ensures.start;
  few = omega arith;
}

pub returns-in-None-clause-counted : goal.returns-in-None-clause-counted
returns-in-None-clause-counted c =
    let row = rw c.in-None.is at c.in_ok-next.ensures.row in
    counting_all c.args.section.now c.args.head.now c.args.origin c.loop-count.cursor c.loop-count.count c.loop-count.invariant.counting c.next.new.self row

pub returns-in-None-clause-whole : goal.returns-in-None-clause-whole
returns-in-None-clause-whole c =
    let row = rw c.in-None.is at c.in_ok-next.ensures.row in
    counted_whole c.args.section.now c.args.head.now c.loop-count.count c.requires.head (counting_all c.args.section.now c.args.head.now c.args.origin c.loop-count.cursor c.loop-count.count c.loop-count.invariant.counting c.next.new.self row) c.loop-count.invariant.few

pub loop-count-preserved : goal.loop-count-preserved
loop-count-preserved c =
    let row = rw c.in-Some.is at c.in_ok-next.ensures.row in
    record {
      counting = counting_on c.args.section.now c.args.head.now c.args.origin c.loop-count.cursor c.loop-count.count c.loop-count.invariant.counting c.next.new.self c.in-Some.field-0 c.next.ensures.stands c.next.ensures.head c.next.ensures.origin row;
      few = omega arith;
    }

pub returns-then-count-ge-ROW_LIMIT-clause-fault : goal.returns-then-count-ge-ROW_LIMIT-clause-fault
returns-then-count-ge-ROW_LIMIT-clause-fault c =
    let head = c.args.head.now in
    let row = rw c.in-Some.is at c.in_ok-next.ensures.row in
    let long = counting_long c.args.section.now head c.args.origin c.loop-count.cursor c.loop-count.count c.loop-count.invariant.counting c.next.new.self c.in-Some.field-0 row (omega arith) in
    subst (λ (f : Fault). IsFaultOf (ProgramFault c.args.section.now head) c.args.origin f) (sym c.too_long.ensures) (head.at, refl, (refl, long))

pub returns-in_err-next-clause-fault : goal.returns-in_err-next-clause-fault
returns-in_err-next-clause-fault c =
    let counted = counting_fault c.args.section.now c.args.head.now c.args.origin c.loop-count.cursor c.loop-count.count c.loop-count.invariant.counting c.in_err-next.field-0.0 c.in_err-next.ensures.fault in
    search (rules, counted)
