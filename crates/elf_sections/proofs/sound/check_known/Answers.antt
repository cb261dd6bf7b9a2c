use Rattle.std.proofs.Common.{◌≡◌, ℕ, false, sym}
use borrow.Author.Count.{below_more}
use Rattle.elf_sections.specs.Faults.{is_companion}
use Rattle.elf_sections.proofs.sound.check_known.Goals as goal

pub loop-i-preserved : goal.loop-i-preserved
loop-i-preserved c =
    below_more (λ (k : ℕ). is_companion c.args.table.now k ≡ false) c.loop-i.i c.loop-i.invariant (sym (rw c.if-is_companion.false at c.is_companion.ensures))
