use Rattle.std.proofs.Common.{◌<◌, ℕ, map}
use Rattle.list_write.specs.Written.{to_write, list_at}
use Rattle.list_tests.specs.Writable.{IsHeld}
use Rattle.list_tests.proofs.list_write_tests.are_held.Given as goal

abbrev pub invariant-loop-list : goal.invariant-loop-list
invariant-loop-list l = (k : ℕ) → k < l.list-index → IsHeld l.parts (list_at (map to_write l.lists.items) k)
