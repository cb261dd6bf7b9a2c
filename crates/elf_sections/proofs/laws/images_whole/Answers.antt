use Rattle.elf_sections.proofs.Faultless.{images_whole}
use Rattle.elf_sections.proofs.laws.images_whole.Goals as goal

pub returns : goal.returns
returns c = images_whole
