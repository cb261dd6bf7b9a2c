use Rattle.std.proofs.Common.{◌≡◌, ◌≤◌, ◌<◌, ◌+◌, ℕ, List, length, slice_range, ap, rules}
use Rattle.elf_sections.specs.Elf.{section_count}
use Rattle.elf_sections.specs.Names.{name_of}
use Rattle.elf_sections.specs.Sections.{name_span, section_of}
use Rattle.elf_sections.specs.inside.Faults.{HasTables}
use Rattle.elf_sections.specs.declared.section.Section.{Section}
use Rattle.elf_sections.proofs.NameLaws.{name_held}
use Rattle.elf_sections.proofs.table.SectionTable.name.Goals as goal

-- the bytes of the span that the section gives
named : (file now : List ℕ) (i : ℕ) (s : Section) → file ≡ now → HasTables file → i < section_count now → s ≡ section_of now i → (slice_range file s.name.at (s.name.at + s.name.len) ≡ name_of now i) × (s.name.at + s.name.len ≤ length file)
named file now i s e tables below is =
    let below_too : i < section_count file = rw e below in
    let span : s.name ≡ name_span file i = rw (← e) at (ap (λ (t : Section). t.name) is) in
    let held = name_held file i tables below_too in
    rw (← e, span) held

pub overflow_add-result : goal.overflow_add-result
overflow_add-result c =
    let h = named c.self.inside.file.now c.args.self.now c.args.i c.section.result c.self.view_is c.self.invariant.0 c.requires c.section.ensures in
    let inside = h.1 in
    search (rules, inside)

pub slice_bounds-result-end : goal.slice_bounds-result-end
slice_bounds-result-end c =
    let h = named c.self.inside.file.now c.args.self.now c.args.i c.section.result c.self.view_is c.self.invariant.0 c.requires c.section.ensures in
    let inside = h.1 in
    search (rules, inside)

pub returns : goal.returns
returns c =
    (named c.self.inside.file.now c.args.self.now c.args.i c.section.result c.self.view_is c.self.invariant.0 c.requires c.section.ensures).0
