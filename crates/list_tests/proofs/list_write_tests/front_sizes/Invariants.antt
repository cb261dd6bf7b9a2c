use Rattle.std.proofs.Common.{◌≡◌, take}
use Rattle.std.specs.List.{sum_by}
use Rattle.list_write.specs.Written.{front_size}
use Rattle.list_tests.proofs.list_write_tests.front_sizes.Given as goal

abbrev pub invariant-loop-part : goal.invariant-loop-part
invariant-loop-part l = l.sum ≡ sum_by front_size (take l.part-index l.parts)
