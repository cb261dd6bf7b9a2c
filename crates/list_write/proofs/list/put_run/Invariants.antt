use Rattle.std.proofs.Common.{take}
use Rattle.spelled.specs.Spelled.{Joined, Appends}
use Rattle.loc_lists.specs.Views.{ShortestPair}
use Rattle.list_write.proofs.list.put_run.Given as goal

abbrev pub invariant-loop-pair : goal.invariant-loop-pair
invariant-loop-pair l = Appends (Joined ShortestPair) (take l.pair-index l.pairs.items) l.fn.out.items l.out.items
