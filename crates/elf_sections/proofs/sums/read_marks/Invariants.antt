use Rattle.std.proofs.Common.{◌≡◌, ◌+◌, length}
use Rattle.elf_sections.proofs.SumLaws.{AreSums}
use Rattle.elf_sections.proofs.sums.read_marks.Given as goal

abbrev pub invariant-loop-k : goal.invariant-loop-k
invariant-loop-k l = record {
  count : length l.marks.items ≡ l.k + 1;
  sums : AreSums l.factor l.bytes l.marks.items l.k;
}
