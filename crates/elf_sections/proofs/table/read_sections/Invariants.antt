use Rattle.std.proofs.Common.{◌≡◌, ◌≤◌, ◌<◌, ℕ, length}
use Rattle.elf_sections.specs.Elf.{section_end}
use Rattle.elf_sections.specs.Names.{names_of, IsNamed}
use Rattle.elf_sections.specs.inside.Names.{AreTextEnds}
use Rattle.elf_sections.specs.inside.Sections.{first_sections}
use Rattle.elf_sections.proofs.table.read_sections.Given as goal

abbrev pub invariant-loop-i : goal.invariant-loop-i
invariant-loop-i l = record {
  sections : l.sections.items ≡ first_sections l.file l.i;
  fit : (k : ℕ) → k < l.i → section_end l.file k ≤ length l.file;
  ends : AreTextEnds (names_of l.file) l.ends.keys;
  named : (k : ℕ) → k < l.i → IsNamed l.file k;
}
