use Rattle.std.proofs.Common.{◌≢◌, ◌<◌, ℕ}
use Rattle.elf_sections.specs.Names.{name_of}
use Rattle.elf_sections.proofs.table.SectionTable.find.Given as goal

abbrev pub invariant-loop-i : goal.invariant-loop-i
invariant-loop-i l = (k : ℕ) → k < l.i → name_of l.self k ≢ l.name
