use Rattle.std.proofs.Common.{length, ◌-◌, ◌≤◌, take}
use Rattle.spelled.specs.Spelled.{Joined}
use Rattle.abbrev_tables.specs.Tables.{SpellsColumn}
use Rattle.abbrev_tables.specs.inside.Readings.{HasColumns}
use Rattle.abbrev_tables.proofs.read.read_columns.Given as goal

abbrev pub invariant-loop-at : goal.invariant-loop-at
invariant-loop-at l = record {
  inside : l.at ≤ length l.rest;
  spelled : HasColumns (Joined SpellsColumn) l.fn.specs.items l.specs.items (take l.at l.rest);
}

abbrev pub decreases-loop-at : goal.decreases-loop-at
decreases-loop-at l = length l.rest - l.at
