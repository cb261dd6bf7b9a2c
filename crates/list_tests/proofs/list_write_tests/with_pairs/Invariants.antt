use Rattle.std.proofs.Common.{◌≡◌, ◌+◌, take}
use Rattle.std.specs.List.{sum_by}
use Rattle.list_write.specs.Written.{pair_size}
use Rattle.list_tests.proofs.list_write_tests.with_pairs.Given as goal

abbrev pub invariant-loop-pair : goal.invariant-loop-pair
invariant-loop-pair l = l.sum ≡ l.size + sum_by pair_size (take l.pair-index l.pairs.items)
