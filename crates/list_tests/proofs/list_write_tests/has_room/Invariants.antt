use Rattle.std.proofs.Common.{◌≡◌, ◌+◌, map}
use Rattle.std.specs.List.{sum_by}
use Rattle.list_write.specs.Written.{to_write, front_size}
use Rattle.list_write.specs.inside.Places.{list_sizes}
use Rattle.list_tests.proofs.list_write_tests.has_room.Given as goal

abbrev pub invariant-loop-list : goal.invariant-loop-list
invariant-loop-list l = l.size ≡ sum_by front_size l.parts + list_sizes (map to_write l.lists.items) l.list-index
