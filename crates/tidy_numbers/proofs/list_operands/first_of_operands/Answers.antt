use Rattle.std.proofs.Common.{◌∙◌, sym, subst, drop}
use Rattle.std.proofs.lemmas.Bool.{false≢true}
use Rattle.list_model.specs.declared.entry.Operand.{Operand}
use Rattle.list_model.specs.Entries.{first_operand, second_operand, SpellsOperand}
use Rattle.tidy_places.specs.Firsts.{IsLeastFound}
use Rattle.tidy_numbers.specs.LongLists.{IsLongOperandOf}
use Rattle.tidy_numbers.specs.inside.Operands.{Begins, IsEndOf, HoldsFrom}
use Rattle.tidy_numbers.proofs.ListEntryPlaces.{second_begins, operands_found}
use Rattle.tidy_numbers.proofs.list_operands.first_of_operands.Goals as goal

pub first_of_operand-requires-clause-there : goal.first_of_operand-requires-clause-there
first_of_operand-requires-clause-there c =
    let bytes = c.args.bytes.now in
    let next = c.end_of_operand-next.result in
    let one : IsEndOf (SpellsOperand (first_operand c.args.kind)) bytes c.args.at next = subst (λ (o : Operand). IsEndOf (SpellsOperand o) bytes c.args.at next) c.first_operand-first.ensures c.end_of_operand-next.ensures in
    subst (λ (o : Operand). Begins (SpellsOperand o) (drop next bytes)) (sym c.second_operand.ensures) (second_begins c.args.kind bytes c.args.at next c.requires.there one)

pub returns : goal.returns
returns c =
    let bytes = c.args.bytes.now in
    let at = c.args.at in
    let next = c.end_of_operand-next.result in
    let found = c.first_of_operand.result in
    let one : IsEndOf (SpellsOperand (first_operand c.args.kind)) bytes at next = subst (λ (o : Operand). IsEndOf (SpellsOperand o) bytes at next) c.first_operand-first.ensures c.end_of_operand-next.ensures in
    let least : IsLeastFound (HoldsFrom (IsLongOperandOf (second_operand c.args.kind)) next bytes) found = subst (λ (o : Operand). IsLeastFound (HoldsFrom (IsLongOperandOf o) next bytes) found) c.second_operand.ensures c.first_of_operand.ensures in
    operands_found c.args.kind bytes at next
    (λ long. absurd (false≢true (sym c.if-is_long_operand.false ∙ c.is_long_operand.ensures.1 (subst (λ (o : Operand). IsLongOperandOf o 0 (drop at bytes)) (sym c.first_operand-first.ensures) long))))
    one found least
