use Rattle.std.proofs.Common.{ℕ, ◌≤◌, ◌<◌, ◌-◌, length, get_or}
use Rattle.list_arena.specs.Held.{HeldList}
use Rattle.list_arena.proofs.lists.Lists.find.Given as goal

abbrev pub invariant-loop-from : goal.invariant-loop-from
invariant-loop-from l = record {
  inside : l.to ≤ length l.self;
  below : (k : ℕ) (d : HeldList) → k < l.from → (get_or l.self k d).at < l.at;
  above : (k : ℕ) (d : HeldList) → l.to ≤ k → k < length l.self → l.at < (get_or l.self k d).at;
}

abbrev pub decreases-loop-from : goal.decreases-loop-from
decreases-loop-from l = l.to - l.from
