use Rattle.std.proofs.Common.{sym, subst, drop}
use Rattle.list_model.specs.declared.entry.Operand.{Operand}
use Rattle.list_model.specs.Entries.{first_operand, second_operand, SpellsOperand}
use Rattle.tidy_numbers.specs.inside.Operands.{Begins, IsEndOf}
use Rattle.tidy_numbers.proofs.ListEntryPlaces.{second_begins, operands_end}
use Rattle.tidy_numbers.proofs.list_operands.end_of_operands.Goals as goal

pub end_of_operand-requires-clause-there : goal.end_of_operand-requires-clause-there
end_of_operand-requires-clause-there c =
    let bytes = c.args.bytes.now in
    let next = c.end_of_operand-next.result in
    let one : IsEndOf (SpellsOperand (first_operand c.args.kind)) bytes c.args.at next = subst (λ (o : Operand). IsEndOf (SpellsOperand o) bytes c.args.at next) c.first_operand.ensures c.end_of_operand-next.ensures in
    subst (λ (o : Operand). Begins (SpellsOperand o) (drop next bytes)) (sym c.second_operand.ensures) (second_begins c.args.kind bytes c.args.at next c.requires.there one)

pub returns : goal.returns
returns c =
    let bytes = c.args.bytes.now in
    let next = c.end_of_operand-next.result in
    let end = c.end_of_operand.result in
    let one : IsEndOf (SpellsOperand (first_operand c.args.kind)) bytes c.args.at next = subst (λ (o : Operand). IsEndOf (SpellsOperand o) bytes c.args.at next) c.first_operand.ensures c.end_of_operand-next.ensures in
    let other : IsEndOf (SpellsOperand (second_operand c.args.kind)) bytes next end = subst (λ (o : Operand). IsEndOf (SpellsOperand o) bytes next end) c.second_operand.ensures c.end_of_operand.ensures in
    operands_end c.args.kind bytes c.args.at next end one other
