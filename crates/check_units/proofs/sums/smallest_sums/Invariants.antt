use Rattle.std.proofs.Common.{◌≡◌, ◌*◌, length}
use Rattle.slot_layout.specs.Rows.{rows_of}
use Rattle.slot_layout.specs.inside.Rounds.{smallest_of}
use Rattle.check_units.specs.inside.Sums.{numbers_of, AreSumsFrom}
use Rattle.check_units.proofs.sums.smallest_sums.Given as goal

abbrev pub invariant-loop-p : goal.invariant-loop-p
invariant-loop-p l = record {
  long : length l.cells.items ≡ 2 * length l.slots;
  numbers : numbers_of l.cells.items ≡ smallest_of (rows_of l.slots);
  sums : AreSumsFrom l.p l.cells.items;
}
