use Rattle.std.proofs.Common.{sym, ◌∙◌}
use Rattle.elf_sections.proofs.TextLaws.{zero_found, no_zero}
use Rattle.elf_sections.proofs.texts.find_zero.Goals as goal

pub returns-in-Some : goal.returns-in-Some
returns-in-Some c = zero_found c.args.bytes.now c.args.at c.args.stop c.in-Some.len c.requires.order c.requires.inside (sym c.first_zero.ensures ∙ c.in-Some.is)

pub returns-in-None : goal.returns-in-None
returns-in-None c = no_zero c.args.bytes.now c.args.at c.args.stop c.requires.order c.requires.inside (sym c.first_zero.ensures ∙ c.in-None.is)
