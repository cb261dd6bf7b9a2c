use Rattle.std.proofs.Common.{◌≡◌, take, sum}
use Rattle.unit_write.proofs.marks.sum_of.Given as goal

abbrev pub invariant-loop-count : goal.invariant-loop-count
invariant-loop-count l = l.sum ≡ sum (take l.count-index l.counts)
