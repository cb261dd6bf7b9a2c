use Rattle.std.proofs.Common.{◌≡◌, sum, take}
use Rattle.unit_write.proofs.layout.total_of.Given as goal

abbrev pub invariant-loop-size : goal.invariant-loop-size
invariant-loop-size l = l.sum ≡ sum (take l.size-index l.sizes)
