use Rattle.std.proofs.Common.{◌<◌, ℕ}
use Rattle.leb_codec.specs.Layout.{HoldsNumber}
use Rattle.slot_layout.specs.Rows.{rows_of}
use Rattle.check_units.proofs.holding.first_unheld.Given as goal

abbrev pub invariant-loop-i : goal.invariant-loop-i
invariant-loop-i l = (j : ℕ) → j < l.i → HoldsNumber (rows_of l.slots) l.sizes j
