use Rattle.std.proofs.Common.{◌≤◌, ◌<◌, ℕ, length}
use Rattle.elf_sections.specs.Elf.{segment_end}
use Rattle.elf_sections.proofs.header.check_segments.Given as goal

abbrev pub invariant-loop-i : goal.invariant-loop-i
invariant-loop-i l = (k : ℕ) → k < l.i → segment_end l.file k ≤ length l.file
