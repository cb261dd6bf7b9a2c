use Rattle.std.proofs.Common.{ℕ}
use borrow.Author.Count.{below_more}
use Rattle.elf_sections.specs.Faults.{IsSectionSound}
use Rattle.elf_sections.proofs.sound.check_each.Goals as goal

pub loop-i-preserved : goal.loop-i-preserved
loop-i-preserved c =
    below_more (λ (k : ℕ). IsSectionSound c.args.table.now c.args.reach k) c.loop-i.i c.loop-i.invariant c.in_default.ensures
