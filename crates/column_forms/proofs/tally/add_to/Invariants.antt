use Rattle.std.specs.Prelude.{ℕ}
use Rattle.column_forms.specs.inside.Tallies.{AreAdded}
use Rattle.column_forms.proofs.tally.add_to.Given as goal

abbrev pub invariant-loop-i : goal.invariant-loop-i
invariant-loop-i l = (name : ℕ) → AreAdded name l.fn.value l.fn.candidates.items l.i l.candidates.items
