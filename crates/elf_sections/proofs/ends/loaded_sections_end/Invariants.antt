use Rattle.std.proofs.Common.{◌≡◌}
use Rattle.elf_sections.specs.Elf.{greatest, loaded_end}
use Rattle.elf_sections.proofs.ends.loaded_sections_end.Given as goal

abbrev pub invariant-loop-i : goal.invariant-loop-i
invariant-loop-i l = l.end ≡ greatest (loaded_end l.file) l.i
