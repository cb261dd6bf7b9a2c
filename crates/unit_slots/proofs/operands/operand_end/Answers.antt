use Rattle.std.proofs.Common.{◌+◌, ℕ, drop, sym, subst}
use Rattle.expr_ops.specs.declared.table.Shape.{Shape}
use Rattle.expr_ops.specs.declared.table.Shape.TheVariants.{Unsigned, Uleb}
use Rattle.expr_ops.specs.Heads.{SpellsPart}
use Rattle.unit_slots.specs.inside.Added.{Begins, IsEndOf}
use Rattle.unit_slots.proofs.NumberEnds.{number_there, fixed_end, uleb_end, uleb_begins}
use Rattle.unit_slots.proofs.operands.operand_end.Goals as goal

pub unreachable-requires : goal.unreachable-requires
unreachable-requires c =
    let there : Begins (SpellsPart Uleb) (drop c.args.at c.args.bytes.now) = subst (λ (s : Shape). Begins (SpellsPart s) (drop c.args.at c.args.bytes.now)) c.in-Uleb.is c.requires.there in
    number_there c.args.bytes.now c.args.at c.in-Err.field-0 (uleb_begins (drop c.args.at c.args.bytes.now) there) c.in-Err.ensures.short c.in-Err.ensures.wide

pub returns-in-Unsigned : goal.returns-in-Unsigned
returns-in-Unsigned c =
    let bytes = c.args.bytes.now in
    let at = c.args.at in
    let there : Begins (SpellsPart (Unsigned c.in-Unsigned.width)) (drop at bytes) = subst (λ (s : Shape). Begins (SpellsPart s) (drop at bytes)) c.in-Unsigned.is c.requires.there in
    subst (λ (s : Shape). IsEndOf (SpellsPart s) bytes at (at + c.size.result)) (sym c.in-Unsigned.is)
    (subst (λ (n : ℕ). IsEndOf (SpellsPart (Unsigned c.in-Unsigned.width)) bytes at (at + n)) (sym c.size.ensures) (fixed_end c.in-Unsigned.width bytes at c.requires.within there))

pub returns-in-Ok : goal.returns-in-Ok
returns-in-Ok c =
    subst (λ (s : Shape). IsEndOf (SpellsPart s) c.args.bytes.now c.args.at c.in-Ok.number.end) (sym c.in-Uleb.is)
    (uleb_end c.args.bytes.now c.args.at c.in-Ok.number.end c.in-Ok.number.value c.in-Ok.ensures.within.0 c.in-Ok.ensures.within.1 c.in-Ok.ensures.read c.in-Ok.ensures.fits)
