use Rattle.std.proofs.Common.{subst}
use Rattle.std.proofs.lemmas.Result.{on_ok_weaker}
use Rattle.spelled.specs.Spelled.{Appends}
use Rattle.list_model.specs.declared.entry.Operand.{Operand}
use Rattle.list_model.specs.Entries.{Entry}
use Rattle.list_least.specs.Plans.{IsPick}
use Rattle.list_least.specs.Shortest.{FitsOperand}
use Rattle.list_write.specs.inside.Puts.{ShortestOperand}
use Rattle.list_write.proofs.Putting.{entry_put}
use Rattle.list_write.proofs.list.put_entry.Goals as goal

pub returns : goal.returns
returns c =
    let pick = c.args.pick in
    let kind = c.in-Some.entry_kind in
    let old = c.args.out.now.items in
    let a = c.push.new.self.items in
    let b = c.put_operand.new.out.items in
    let new = c.put_operand-2.new.out.items in
    let first = subst (λ (z : Operand). FitsOperand z pick.a → Appends (ShortestOperand z) pick.a a b) c.first_operand.ensures c.in_ok-put_operand.ensures in
    on_ok_weaker c.put_operand-2.result
    (λ (put : FitsOperand c.second_operand.result pick.b → Appends (ShortestOperand c.second_operand.result) pick.b b new) (entry : Entry) (is : IsPick c.args.kind pick entry).
    entry_put c.args.kind pick entry kind old a b new c.in-Some.ensures is c.in_ok-push.ensures.items first (subst (λ (z : Operand). FitsOperand z pick.b → Appends (ShortestOperand z) pick.b b new) c.second_operand.ensures put))
    c.put_operand-2.ensures
