use Rattle.std.proofs.Common.{◌≤◌, ◌-◌, length}
use Rattle.companions.specs.Aranges.{SetsFollow}
use Rattle.companions.proofs.set.read_aranges.Given as goal

abbrev pub invariant-loop-at : goal.invariant-loop-at
invariant-loop-at l = record {
  inside : l.at ≤ length l.section;
  front : SetsFollow l.section l.starts.items l.sets.items 0 l.at;
}

abbrev pub decreases-loop-at : goal.decreases-loop-at
decreases-loop-at l = length l.section - l.at
