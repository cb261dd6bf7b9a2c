use Rattle.std.proofs.Common.{rules}
use Rattle.elf_sections.specs.Elf.{IsElf64}
use Rattle.elf_sections.proofs.Faultless.{rows_count, rows_count_anyway}
use Rattle.elf_sections.proofs.image.read_arranged.Goals as goal

pub returns-in_err-table-clause-refused : goal.returns-in_err-table-clause-refused
returns-in_err-table-clause-refused c =
    let elf : IsElf64 c.args.file.now = search rules in
    let named = rows_count_anyway c.args.file.now c.args.reach c.in_err-table.field-0.0 elf c.in_err-table.ensures.fault in
    search (rules, named)

pub returns-in_err-check_arranged-clause-refused : goal.returns-in_err-check_arranged-clause-refused
returns-in_err-check_arranged-clause-refused c =
    let elf : IsElf64 c.args.file.now = search rules in
    let named = rows_count c.args.file.now c.args.reach c.in_err-check_arranged.field-0.0 elf (rw c.in_ok-table.ensures.table.0 at c.in_err-check_arranged.ensures.fault) in
    search (rules, named)
