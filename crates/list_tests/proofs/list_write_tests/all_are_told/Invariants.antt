use Rattle.std.proofs.Common.{◌<◌, ℕ, map}
use Rattle.list_write.specs.Written.{to_write, part_at}
use Rattle.list_tests.specs.Writable.{AreTold}
use Rattle.list_tests.proofs.list_write_tests.all_are_told.Given as goal

abbrev pub invariant-loop-part : goal.invariant-loop-part
invariant-loop-part l = (p : ℕ) → p < l.part-index → AreTold l.section (part_at l.parts p) (map to_write l.lists.items)
