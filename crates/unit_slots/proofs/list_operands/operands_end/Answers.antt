use Rattle.std.proofs.Common.{◌≡◌, ◌+◌, ℕ, sym, subst}
use Rattle.entry_arena.specs.Trees.{SpellsBetween}
use Rattle.list_model.specs.declared.entry.Operand.{Operand}
use Rattle.list_model.specs.Entries.{SpellsOperand}
use Rattle.unit_slots.specs.Standing.{OperandsEnd}
use Rattle.unit_slots.proofs.ListEntryOperands.{parts_there, second_there}
use Rattle.unit_slots.proofs.list_operands.operands_end.Goals as goal

pub operand_end-second-requires : goal.operand_end-second-requires
operand_end-second-requires c =
    let raw = c.args.raw.now in
    let parts = parts_there c.args.list c.args.section.now c.args.raw.now c.requires.0 c.in-Some.kind c.requires.1 c.in-Some.ensures in
    (parts.a, parts.mid, subst (λ (o : Operand). SpellsBetween (SpellsOperand o parts.a) c.args.section.now (raw.at + 1) parts.mid) (sym c.first_operand.ensures) parts.first)

pub operand_end-requires : goal.operand_end-requires
operand_end-requires c =
    let section = c.args.section.now in
    let raw = c.args.raw.now in
    let parts = parts_there c.args.list c.args.section.now c.args.raw.now c.requires.0 c.in-Some.kind c.requires.1 c.in-Some.ensures in
    let second = second_there c.in-Some.kind section (raw.at + 1) c.requires.0 c.operand_end-second.result parts
    (subst (λ (o : Operand). (value to : ℕ) → SpellsBetween (SpellsOperand o value) c.args.section.now (raw.at + 1) to → c.operand_end-second.result ≡ to) c.first_operand.ensures c.operand_end-second.ensures) in
    (parts.b, c.requires.0, subst (λ (o : Operand). SpellsBetween (SpellsOperand o parts.b) section c.operand_end-second.result c.requires.0) (sym c.second_operand.ensures) second)

pub returns : goal.returns
returns c =
    let section = c.args.section.now in
    let raw = c.args.raw.now in
    let parts = parts_there c.args.list c.args.section.now c.args.raw.now c.requires.0 c.in-Some.kind c.requires.1 c.in-Some.ensures in
    let second = second_there c.in-Some.kind section (raw.at + 1) c.requires.0 c.operand_end-second.result parts
    (subst (λ (o : Operand). (value to : ℕ) → SpellsBetween (SpellsOperand o value) c.args.section.now (raw.at + 1) to → c.operand_end-second.result ≡ to) c.first_operand.ensures c.operand_end-second.ensures) in
    let ends : c.operand_end.result ≡ c.requires.0 = c.operand_end.ensures parts.b c.requires.0 (subst (λ (o : Operand). SpellsBetween (SpellsOperand o parts.b) section c.operand_end-second.result c.requires.0) (sym c.second_operand.ensures) second) in
    subst (OperandsEnd c.args.list section raw) (sym ends) c.requires.1
