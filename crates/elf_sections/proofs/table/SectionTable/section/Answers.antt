use Rattle.std.proofs.Common.{◌≡◌, ◌∙◌, arith, length}
use Rattle.elf_sections.specs.Elf.{section_count}
use Rattle.elf_sections.proofs.SectionLists.{length-first_sections, at-first_sections}
use Rattle.elf_sections.proofs.table.SectionTable.section.Goals as goal

pub index-requires : goal.index-requires
index-requires c =
    let sections = c.self.inside.sections in
    let size : length sections.items ≡ section_count c.self.inside.file.now = rw c.self.invariant.1 (length-first_sections _ _) in
    let inside = rw (← c.self.view_is) at c.requires in
    omega (arith, size, sections.ok.0)

pub returns : goal.returns
returns c =
    let inside = rw (← c.self.view_is) at c.requires in
    let read = rw c.self.invariant.1 at c.index.ensures in
    rw (← c.self.view_is) (read ∙ at-first_sections _ _ _ _ inside)
