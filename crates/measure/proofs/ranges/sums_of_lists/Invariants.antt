use Rattle.measure.proofs.ranges.sums_of_lists.Given as goal

abbrev pub decreases-loop-left : goal.decreases-loop-left
decreases-loop-left l = l.left
