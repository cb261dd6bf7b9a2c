use Rattle.std.proofs.Common.{◌+◌, sym, subst, drop}
use Rattle.list_model.specs.declared.entry.Operand.{Operand}
use Rattle.list_model.specs.Entries.{SpellsOperand}
use Rattle.tidy_numbers.specs.inside.Operands.{Begins, IsEndOf}
use Rattle.tidy_numbers.proofs.ListEntryPlaces.{address_end}
use Rattle.tidy_numbers.proofs.list_operands.end_of_operand.Goals as goal

pub returns-in-Address : goal.returns-in-Address
returns-in-Address c =
    let bytes = c.args.bytes.now in
    let at = c.args.at in
    subst (λ (o : Operand). IsEndOf (SpellsOperand o) bytes at (at + 8)) (sym c.in-Address.is) (address_end bytes at c.requires.within (subst (λ (o : Operand). Begins (SpellsOperand o) (drop at bytes)) c.in-Address.is c.requires.there))
