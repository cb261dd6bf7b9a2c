use Rattle.std.proofs.Common.{◌<◌, ℕ}
use Rattle.slot_layout.specs.Rows.{rows_of}
use Rattle.check_units.specs.inside.Checks.{HasItsRanks}
use Rattle.check_units.proofs.dealing.first_misdealt.Given as goal

abbrev pub invariant-loop-i : goal.invariant-loop-i
invariant-loop-i l = (j : ℕ) → j < l.i → HasItsRanks (rows_of l.slots) l.sizes l.ranks j
