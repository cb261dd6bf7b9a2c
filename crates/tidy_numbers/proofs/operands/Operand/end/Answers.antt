use Rattle.std.proofs.Common.{◌+◌, ℕ, drop, sym, subst}
use Rattle.expr_ops.specs.declared.table.Shape.{Shape}
use Rattle.expr_ops.specs.declared.table.Shape.TheVariants.{Unsigned}
use Rattle.expr_ops.specs.Heads.{SpellsPart}
use Rattle.tidy_numbers.specs.inside.Operands.{Begins, IsEndOf}
use Rattle.tidy_numbers.proofs.OperandPlaces.{fixed_end, number_end}
use Rattle.tidy_numbers.proofs.operands.Operand.end.Goals as goal

pub returns-in-Unsigned : goal.returns-in-Unsigned
returns-in-Unsigned c =
    let bytes = c.args.bytes.now in
    let at = c.args.at in
    let there : Begins (SpellsPart (Unsigned c.in-Unsigned.width)) (drop at bytes) = subst (λ (s : Shape). Begins (SpellsPart s) (drop at bytes)) c.in-Unsigned.is c.requires.there in
    subst (λ (s : Shape). IsEndOf (SpellsPart s) bytes at (at + c.size.result)) (sym c.in-Unsigned.is)
    (subst (λ (n : ℕ). IsEndOf (SpellsPart (Unsigned c.in-Unsigned.width)) bytes at (at + n)) (sym c.size.ensures) (fixed_end c.in-Unsigned.width bytes at c.requires.within there))

pub returns-in-Uleb : goal.returns-in-Uleb
returns-in-Uleb c =
    subst (λ (s : Shape). IsEndOf (SpellsPart s) c.args.bytes.now c.args.at c.end_of_number.result) (sym c.in-Uleb.is) (number_end c.args.bytes.now c.args.at c.end_of_number.result c.end_of_number.ensures)
