use Rattle.std.proofs.Common.{length, ◌-◌, ◌<◌, ◌^◌}
use Rattle.abbrev_tables.specs.Index.{IsIndex}
use Rattle.abbrev_tables.specs.inside.Index.{IsFront}
use Rattle.abbrev_tables.proofs.table.read_table.Given as goal

abbrev pub invariant-loop-at : goal.invariant-loop-at
invariant-loop-at l = record {
  front : IsFront l.rest l.start l.at l.decls.items l.specs.items;
  index : IsIndex l.decls.items l.others;
  few : length l.decls.items < 2 ^ 32;
  narrow : length l.specs.items < 2 ^ 32;
}

abbrev pub decreases-loop-at : goal.decreases-loop-at
decreases-loop-at l = length l.rest - l.at
