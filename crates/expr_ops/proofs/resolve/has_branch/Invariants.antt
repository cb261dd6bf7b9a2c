use Rattle.std.proofs.Common.{◌≡◌, ◌<◌, ℕ, false}
use Rattle.expr_ops.specs.inside.Levels.{start_at}
use Rattle.expr_ops.proofs.resolve.has_branch.Given as goal

abbrev pub invariant-loop-start : goal.invariant-loop-start
invariant-loop-start l = (k : ℕ) → k < l.start-index → (start_at l.starts k).is_branch ≡ false
