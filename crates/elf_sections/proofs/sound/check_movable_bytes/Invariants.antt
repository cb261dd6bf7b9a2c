use Rattle.std.proofs.Common.{◌≡◌, ◌≤◌}
use Rattle.elf_sections.specs.Faults.{movable_bytes}
use Rattle.elf_sections.proofs.sound.check_movable_bytes.Given as goal

abbrev pub invariant-loop-i : goal.invariant-loop-i
invariant-loop-i l = record {
  total : l.total ≡ movable_bytes l.table l.i;
  within : l.total ≤ l.most;
}
