use Rattle.std.proofs.Common.{ℕ, List}
use Rattle.entry_read.specs.Slots.{aims_before, meaning_at, operations_in}
use Rattle.unit_slots.specs.inside.Rows.{HasSpots, AreRows}
use Rattle.unit_slots.proofs.rows.own_slots.Given as goal

abbrev pub invariant-loop-number : goal.invariant-loop-number
invariant-loop-number l = (own : List ℕ) → HasSpots l.unit (operations_in l.unit.forest l.operations) own l.spots → AreRows l.unit (operations_in l.unit.forest l.operations) own (aims_before (meaning_at l.unit.forest) (operations_in l.unit.forest l.operations) l.number) l.slots.items
