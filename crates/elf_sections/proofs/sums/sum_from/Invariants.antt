use Rattle.std.proofs.Common.{◌≡◌, ◌≤◌}
use Rattle.elf_sections.specs.Names.{text_at}
use Rattle.elf_sections.specs.inside.Sums.{sum_of}
use Rattle.elf_sections.proofs.sums.sum_from.Given as goal

abbrev pub invariant-loop-at : goal.invariant-loop-at
invariant-loop-at l = record {
  order : l.from ≤ l.at;
  inside : l.at ≤ l.to;
  sum : l.sum ≡ sum_of l.factor (text_at l.bytes l.at);
}

abbrev pub decreases-loop-at : goal.decreases-loop-at
decreases-loop-at l = l.at
