use Rattle.std.proofs.Common.{inr}
use Rattle.std.proofs.lemmas.Result.{err_from_is_err_and}
use Rattle.elf_sections.proofs.Faultless.{elf_whole, read_sound}
use Rattle.elf_sections.proofs.Reaches.{read-wide}
use Rattle.elf_sections.proofs.image.Image.read.Goals as goal

pub returns-in_err-check_known-clause-refused : goal.returns-in_err-check_known-clause-refused
returns-in_err-check_known-clause-refused c =
    let p = err_from_is_err_and c.from_residual-in_err-check_known.result c.from_residual-in_err-check_known.ensures.1 in
    let sound = c.in_ok-table.ensures.sound in
    rw (p.1, p.2) (inr (elf_whole c.args.file.now c.args.reach sound, rw c.in_ok-table.ensures.table at c.in_err-check_known.ensures.fault sound.elf))

pub invariant_of-result : goal.invariant_of-result
invariant_of-result c =
    let known = rw c.in_ok-table.ensures.table at c.in_ok-check_known.ensures.known in
    let read = read_sound c.args.file.now c.args.reach c.in_ok-table.ensures.sound known in
    rw c.in_ok-table.ensures.table (read-wide c.args.file.now c.args.reach read)

pub returns-clause-faultless : goal.returns-clause-faultless
returns-clause-faultless c = elf_whole c.args.file.now c.args.reach c.in_ok-table.ensures.sound
