use Rattle.std.proofs.Common.{ℕ, ◌<◌, slice_index_or}
use Rattle.list_write.specs.declared.named.NamedList.{NamedList}
use Rattle.list_write.specs.Written.{AreEnds}
use Rattle.list_tests.proofs.list_write_tests.are_ended.Given as goal

abbrev pub invariant-loop-list : goal.invariant-loop-list
invariant-loop-list l = (k : ℕ) (d : NamedList) → k < l.list-index → AreEnds (slice_index_or l.lists.items k d).expressions
