use Rattle.std.proofs.Common.{◌≤◌, ◌-◌, length}
use Rattle.line_machine.specs.Heads.{program_of}
use Rattle.line_machine.specs.Faults.{row_limit}
use Rattle.line_machine.specs.Cursors.{IsNear}
use Rattle.line_machine.proofs.Listing.{Listed}
use Rattle.line_machine.proofs.table.rows.Given as goal

abbrev pub invariant-loop-rows : goal.invariant-loop-rows
invariant-loop-rows l = record {
  inside : l.place.at ≤ length (program_of l.section l.head);
  near : IsNear l.place.at l.place.registers.line;
  listed : Listed l.head (program_of l.section l.head) l.place l.rows.items;
  few : length l.rows.items ≤ row_limit;
}

abbrev pub decreases-loop-rows : goal.decreases-loop-rows
decreases-loop-rows l = length (program_of l.section l.head) - l.place.at
