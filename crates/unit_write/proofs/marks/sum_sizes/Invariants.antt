use Rattle.unit_write.proofs.NumbersSet.{AreCountsSummed}
use Rattle.unit_write.proofs.marks.sum_sizes.Given as goal

abbrev pub invariant-loop-number : goal.invariant-loop-number
invariant-loop-number l = AreCountsSummed l.fn.counts.items l.sizes l.number l.slot l.sum l.counts.items
