use Rattle.std.proofs.Common.{◌<◌, ℕ}
use Rattle.elf_sections.specs.Faults.{IsSectionSound}
use Rattle.elf_sections.proofs.sound.check_each.Given as goal

abbrev pub invariant-loop-i : goal.invariant-loop-i
invariant-loop-i l = (k : ℕ) → k < l.i → IsSectionSound l.table l.reach k
