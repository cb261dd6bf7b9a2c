use Rattle.slot_layout.specs.Rows.{rows_of}
use Rattle.slot_layout.specs.inside.Rounds.{AreStarts}
use Rattle.slot_layout.proofs.GrowLaws.{IsHalfway}
use Rattle.slot_layout.proofs.rounds.grow.Given as goal

abbrev pub invariant-loop-i : goal.invariant-loop-i
invariant-loop-i l = record {
  starts : AreStarts l.fn.sizes l.starts;
  halfway : IsHalfway (rows_of l.slots) l.rank l.fn.sizes l.fn.ranks l.i l.sizes l.ranks l.is_raised;
}
