use Rattle.std.proofs.Common.{sym, rules}
use Rattle.elf_sections.proofs.SumLaws.{sum_past}
use Rattle.elf_sections.proofs.sums.TextSums.sum_at.Goals as goal

pub returns-then-at-self : goal.returns-then-at-self
returns-then-at-self c = sym (sum_past c.args.self.now.1 c.args.self.now.0 c.args.at (search rules))
