use Rattle.std.proofs.Common.{ℕ, ◌≤◌, ◌<◌, ◌-◌, length, get_or}
use Rattle.list_arena.specs.Held.{HeldViews}
use Rattle.list_arena.specs.inside.Views.{IsRunBefore, IsRunBehind}
use Rattle.list_arena.proofs.views.Views.find.Given as goal

abbrev pub invariant-loop-from : goal.invariant-loop-from
invariant-loop-from l = record {
  inside : l.to ≤ length l.self;
  below : (k : ℕ) (d : HeldViews) → k < l.from → IsRunBefore (get_or l.self k d) l.list l.at;
  above : (k : ℕ) (d : HeldViews) → l.to ≤ k → k < length l.self → IsRunBehind (get_or l.self k d) l.list l.at;
}

abbrev pub decreases-loop-from : goal.decreases-loop-from
decreases-loop-from l = l.to - l.from
