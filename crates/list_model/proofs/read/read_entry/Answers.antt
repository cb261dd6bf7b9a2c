use Rattle.std.proofs.Common.{◌+◌, ◌-◌, take, drop, subst, arith}
use Rattle.list_model.specs.declared.entry.Operand.{Operand}
use Rattle.list_model.specs.Entries.{SpellsOperand, FaultOperand}
use Rattle.dw_base.specs.Refusals.{IsFaultOf}
use Rattle.std.proofs.lemmas.Result.{err_from_is_err_and}
use Rattle.list_model.proofs.EntryLaws.{read_whole}
use Rattle.list_model.proofs.EntryReads.{entry_read, first_fault, second_fault}
use Rattle.list_model.proofs.read.read_entry.Goals as goal

pub returns-clause-entry : goal.returns-clause-entry
returns-clause-entry c =
    let bytes = c.args.bytes.now in
    let at = c.args.at in
    let first = c.in_ok-first.first in
    let second = c.in_ok-second.second in
    let s = subst (λ (z : Operand). SpellsOperand z first.value (take (first.end - (at + 1)) (drop (at + 1) bytes))) c.first_operand.ensures c.in_ok-first.ensures.read in
    let t = subst (λ (z : Operand). SpellsOperand z second.value (take (second.end - first.end) (drop first.end bytes))) c.second_operand.ensures c.in_ok-second.ensures.read in
    entry_read c.args.list bytes at first.value second.value first.end second.end c.in-Some.kind (omega (arith, c.if-at-bytes.false, c.requires.inside)) c.in-Some.ensures c.in_ok-first.ensures.within.0 c.in_ok-second.ensures.within.0 c.in_ok-second.ensures.within.1 s t

pub returns-clause-whole : goal.returns-clause-whole
returns-clause-whole c =
    let read = returns-clause-entry c in
    read_whole c.args.list read.entry (c.in_ok-second.second.end - c.args.at) (drop c.args.at c.args.bytes.now) read.spelled

pub returns-in_err-first-clause-fault : goal.returns-in_err-first-clause-fault
returns-in_err-first-clause-fault c =
    let bytes = c.args.bytes.now in
    let at = c.args.at in
    let p = err_from_is_err_and c.from_residual.result c.from_residual.ensures.1 in
    let fault = c.in_err-first.field-0.0 in
    let found = subst (λ (z : Operand). IsFaultOf (λ kind place. FaultOperand z kind place (drop (at + 1) bytes)) (c.args.origin + (at + 1)) fault) c.first_operand.ensures c.in_err-first.ensures.fault in
    rw (p.1, p.2) (first_fault c.args.list bytes at c.args.origin c.in-Some.kind fault (omega (arith, c.if-at-bytes.false, c.requires.inside)) c.in-Some.ensures found)

pub returns-in_err-second-clause-fault : goal.returns-in_err-second-clause-fault
returns-in_err-second-clause-fault c =
    let bytes = c.args.bytes.now in
    let at = c.args.at in
    let first = c.in_ok-first.first in
    let p = err_from_is_err_and c.from_residual-in_err-second.result c.from_residual-in_err-second.ensures.1 in
    let fault = c.in_err-second.field-0.0 in
    let s = subst (λ (z : Operand). SpellsOperand z first.value (take (first.end - (at + 1)) (drop (at + 1) bytes))) c.first_operand.ensures c.in_ok-first.ensures.read in
    let found = subst (λ (z : Operand). IsFaultOf (λ kind place. FaultOperand z kind place (drop first.end bytes)) (c.args.origin + first.end) fault) c.second_operand.ensures c.in_err-second.ensures.fault in
    rw (p.1, p.2) (second_fault c.args.list bytes at first.value first.end c.args.origin c.in-Some.kind fault (omega (arith, c.if-at-bytes.false, c.requires.inside)) c.in-Some.ensures c.in_ok-first.ensures.within.0 c.in_ok-first.ensures.within.1 s found)
