use Rattle.std.proofs.Common.{ap}
use Rattle.elf_sections.specs.inside.Sums.{mix}
use Rattle.elf_sections.proofs.sums.mix.Goals as goal

pub returns : goal.returns
unfolding mix
returns c = ap (mix c.args.factor c.args.sum) c.from.ensures
