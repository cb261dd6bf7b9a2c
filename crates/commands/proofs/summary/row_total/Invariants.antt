use Rattle.commands.proofs.RowTotals.{IsCounted}
use Rattle.commands.proofs.summary.row_total.Given as goal

abbrev pub invariant-loop-head : goal.invariant-loop-head
invariant-loop-head l = record { counted : IsCounted l.section l.heads l.head-index l.total }
