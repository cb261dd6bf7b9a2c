use Rattle.std.proofs.Common.{◌≤◌, ◌-◌, length}
use Rattle.list_model.specs.Contributions.{ContributionsFollow}
use Rattle.list_model.proofs.contribution.contributions.Given as goal

abbrev pub invariant-loop-at : goal.invariant-loop-at
invariant-loop-at l = record {
  inside : l.at ≤ length l.section;
  front : ContributionsFollow l.section l.parts.items 0 l.at;
}

abbrev pub decreases-loop-at : goal.decreases-loop-at
decreases-loop-at l = length l.section - l.at
