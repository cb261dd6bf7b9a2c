use Rattle.std.proofs.Common.{◌≤◌, ◌-◌, length}
use Rattle.entry_read.specs.Heads.{Follow}
use Rattle.entry_read.proofs.head.heads.Given as goal

abbrev pub invariant-loop-at : goal.invariant-loop-at
invariant-loop-at l = record {
  inside : l.at ≤ length l.info;
  front : Follow l.info l.heads.items 0 l.at;
}

abbrev pub decreases-loop-at : goal.decreases-loop-at
decreases-loop-at l = length l.info - l.at
