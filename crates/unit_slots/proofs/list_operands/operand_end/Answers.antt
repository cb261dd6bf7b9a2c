use Rattle.std.proofs.Common.{subst}
use Rattle.list_model.specs.declared.entry.Operand.{Operand}
use Rattle.list_model.specs.Entries.{SpellsOperand}
use Rattle.entry_arena.specs.Trees.{SpellsBetween}
use Rattle.entry_read.proofs.ColumnPlaces.{code_ends, code_found}
use Rattle.unit_slots.proofs.list_operands.operand_end.Goals as goal

pub unreachable-requires : goal.unreachable-requires
unreachable-requires c =
    let (value, to, there) = c.requires in
    code_found c.args.section.now value c.args.at to (subst (λ (o : Operand). SpellsBetween (SpellsOperand o value) c.args.section.now c.args.at to) c.in-Number.is there) c.in-Err.field-0 c.in-Err.ensures.short c.in-Err.ensures.wide

pub returns-in-Ok : goal.returns-in-Ok
returns-in-Ok c = λ value to there.
    code_ends c.args.section.now c.args.at c.in-Ok.number.end c.in-Ok.number.value c.in-Ok.ensures.within.0 c.in-Ok.ensures.within.1 c.in-Ok.ensures.read c.in-Ok.ensures.fits value to (subst (λ (o : Operand). SpellsBetween (SpellsOperand o value) c.args.section.now c.args.at to) c.in-Number.is there)
