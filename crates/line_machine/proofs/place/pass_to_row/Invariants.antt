use Rattle.std.proofs.Common.{◌≤◌, ◌-◌, [], length}
use Rattle.line_machine.specs.Cursors.{PassesOn, IsNear}
use Rattle.line_machine.proofs.place.pass_to_row.Given as goal

abbrev pub invariant-loop-place : goal.invariant-loop-place
invariant-loop-place l = record {
  from : l.fn.start.at ≤ l.place.at;
  inside : l.place.at ≤ length l.program;
  near : IsNear l.place.at l.place.registers.line;
  passed : PassesOn l.head l.program l.fn.start l.place [];
}

abbrev pub decreases-loop-place : goal.decreases-loop-place
decreases-loop-place l = length l.program - l.place.at
