use Rattle.std.proofs.Common.{length, ◌-◌}
use Rattle.line_write.proofs.Reading.{Reading}
use Rattle.line_write.proofs.read.read_lines.Given as goal

abbrev pub invariant-loop-at : goal.invariant-loop-at
invariant-loop-at l = record { reading : Reading l.section l.at l.total l.heads.items }

abbrev pub decreases-loop-at : goal.decreases-loop-at
decreases-loop-at l = length l.section - l.at
