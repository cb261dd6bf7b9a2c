use Rattle.std.proofs.lemmas.Result.{IfErr-weaker}
use Rattle.elf_sections.specs.Faults.{NamesFirstFault}
use Rattle.value_links.specs.Faults.{NamesFault}
use Rattle.value_links.proofs.WorldLaws.{image_refused}
use Rattle.value_links.proofs.world.read_image.Goals as goal

pub returns-clause-refused : goal.returns-clause-refused
returns-clause-refused c = IfErr-weaker c.read.result (NamesFirstFault c.args.file.now c.args.reach) (NamesFault c.args.file.now c.args.reach) (λ refusal f. image_refused c.args.file.now c.args.reach refusal f) c.read.ensures.refused
