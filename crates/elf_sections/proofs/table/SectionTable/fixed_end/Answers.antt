use Rattle.std.proofs.Common.{rules}
use Rattle.elf_sections.proofs.FixedEnd.{fixed_end-header, fixed_end-within, fixed_end-table, fixed_end-segment, fixed_end-loaded}
use Rattle.elf_sections.proofs.table.SectionTable.fixed_end.Goals as goal

pub returns : goal.returns
returns c =
    let file = c.self.inside.file.now in
    let tables = c.self.invariant.0 in
    rw (← c.self.view_is, c.self.invariant.2) (record {
      value = search rules;
      header = fixed_end-header file tables;
      within = fixed_end-within file tables;
      table = fixed_end-table file tables;
      segments = fixed_end-segment file tables;
      loaded = fixed_end-loaded file tables;
    })
