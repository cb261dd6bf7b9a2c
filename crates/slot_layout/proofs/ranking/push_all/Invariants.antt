use Rattle.std.proofs.Common.{◌≡◌, ◌++◌, take}
use Rattle.slot_layout.proofs.ranking.push_all.Given as goal

abbrev pub invariant-loop-rank : goal.invariant-loop-rank
invariant-loop-rank l = l.all.items ≡ l.fn.all.items ++ take l.rank-index l.ranks
