use Rattle.std.proofs.Common.{◌<◌, ◌+◌, ◌*◌, ℕ, map}
use Rattle.list_model.specs.Contributions.{offsets_at}
use Rattle.list_write.specs.Written.{to_write}
use Rattle.list_write.specs.inside.Puts.{told_at}
use Rattle.list_tests.specs.Writable.{HasList}
use Rattle.list_tests.proofs.list_write_tests.are_told.Given as goal

abbrev pub invariant-loop-slot : goal.invariant-loop-slot
invariant-loop-slot l = (slot : ℕ) → slot < l.slot → HasList (map to_write l.lists.items) (told_at l.section (offsets_at l.part.at) (offsets_at l.part.at + 4 * slot))
