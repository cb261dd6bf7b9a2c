use Rattle.std.proofs.Common.{◌≡◌, ◌<◌, ℕ, false}
use Rattle.elf_sections.specs.Faults.{is_companion}
use Rattle.elf_sections.proofs.sound.check_known.Given as goal

abbrev pub invariant-loop-i : goal.invariant-loop-i
invariant-loop-i l = (k : ℕ) → k < l.i → is_companion l.table k ≡ false
