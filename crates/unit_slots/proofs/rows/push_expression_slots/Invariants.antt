use Rattle.unit_slots.proofs.RowLaws.{AreBegun}
use Rattle.unit_slots.proofs.rows.push_expression_slots.Given as goal

abbrev pub invariant-loop-k : goal.invariant-loop-k
invariant-loop-k l = AreBegun l.fn.unit l.fn.spots l.bytes l.ops l.k l.fn.slots.items l.slots.items
