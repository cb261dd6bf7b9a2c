use Rattle.std.proofs.Common.{List, ℕ, sym, subst}
use Rattle.entry_read.specs.declared.head.UnitHead.{UnitHead}
use Rattle.entry_read.specs.Heads.{IsHead}
use Rattle.entry_read.specs.Units.{declarations_of, IsUnitHeld}
use Rattle.unit_tests.proofs.unit_write_write_tests.write_at.Goals as goal

pub write_sized-requires-clause-head : goal.write_sized-requires-clause-head
write_sized-requires-clause-head c =
    subst (λ (s : List ℕ). IsHead s c.in-Ok.unit.head) (sym c.in-Ok.ensures.section) (subst (λ (h : UnitHead). IsHead c.args.info.now h) (sym c.in-Ok.ensures.head) c.requires.head)

pub write_sized-requires-clause-held : goal.write_sized-requires-clause-held
write_sized-requires-clause-held c =
    let ds = declarations_of c.args.table.now in
    subst (λ (s : List ℕ). IsUnitHeld s c.in-Ok.unit.head ds c.in-Ok.unit.forest) (sym c.in-Ok.ensures.section) (subst (λ (h : UnitHead). IsUnitHeld c.args.info.now h ds c.in-Ok.unit.forest) (sym c.in-Ok.ensures.head) c.in-Ok.ensures.unit)
