use Rattle.std.proofs.Common.{◌∙◌, ℕ, List, ap, drop, arith}
use Rattle.fixed_width.specs.Numbers.{number}
use Rattle.elf_sections.specs.Elf.{header_at}
use Rattle.same_meaning.proofs.HeaderFields.{number_in}
use Rattle.same_meaning.proofs.kept.size_of.Goals as goal

pub returns : goal.returns
returns c =
    c.u64_at.ensures
    ∙ ap (λ (z : List ℕ). number 8 (drop 32 z)) c.header.ensures.bytes
    ∙ number_in c.args.image.now (header_at c.args.image.now c.args.section) 64 8 32 (omega arith)
