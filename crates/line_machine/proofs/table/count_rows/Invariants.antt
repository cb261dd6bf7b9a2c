use Rattle.std.proofs.Common.{◌≤◌, ◌-◌}
use Rattle.line_machine.specs.Faults.{row_limit}
use Rattle.line_machine.proofs.Counting.{Counting}
use Rattle.line_machine.proofs.table.count_rows.Given as goal

abbrev pub invariant-loop-count : goal.invariant-loop-count
invariant-loop-count l = record {
  counting : Counting l.section l.head l.origin l.cursor l.count;
  few : l.count ≤ row_limit;
}

abbrev pub decreases-loop-count : goal.decreases-loop-count
decreases-loop-count l = row_limit - l.count
