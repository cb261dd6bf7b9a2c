use Rattle.std.proofs.Common.{◌≡◌, ◌≤◌, ◌+◌, ℕ, min, length, get_or}
use Rattle.slot_layout.specs.Rows.{rows_of}
use Rattle.check_units.specs.inside.Dealing.{steps_before}
use Rattle.check_units.proofs.dealing.deal.Given as goal

abbrev pub invariant-loop-i : goal.invariant-loop-i
invariant-loop-i l = record {
  one_more : length l.starts.items ≡ l.i + 1;
  start : l.start ≡ min (steps_before (rows_of l.slots) l.sizes l.i) l.count;
  each : (k : ℕ) → k ≤ l.i → get_or l.starts.items k 0 ≡ min (steps_before (rows_of l.slots) l.sizes k) l.count;
}
