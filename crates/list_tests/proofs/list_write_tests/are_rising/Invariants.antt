use Rattle.std.proofs.Common.{◌<◌, ◌-◌, ℕ, map}
use Rattle.list_write.specs.Written.{to_write, list_at}
use Rattle.list_tests.proofs.list_write_tests.are_rising.Given as goal

abbrev pub invariant-loop-number : goal.invariant-loop-number
invariant-loop-number l = (k : ℕ) → 0 < k → k < l.number → (list_at (map to_write l.lists.items) (k - 1)).at < (list_at (map to_write l.lists.items) k).at
