use Rattle.elf_sections.proofs.NameSets.{HoldsNames, AreDistinct}
use Rattle.elf_sections.proofs.sound.check_names.Given as goal

abbrev pub invariant-loop-i : goal.invariant-loop-i
invariant-loop-i l = record {
  holds : HoldsNames l.sums.1 l.table l.i l.names;
  distinct : AreDistinct l.table l.i;
}
