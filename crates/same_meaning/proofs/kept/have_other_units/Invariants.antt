use Rattle.std.proofs.Common.{◌≡◌, ◌<◌, ℕ}
use Rattle.std.specs.Prelude.{slice_index_or}
use Rattle.companions.specs.declared.set.ArangeSet.{ArangeSet}
use Rattle.same_meaning.proofs.kept.have_other_units.Given as goal

abbrev pub invariant-loop-i : goal.invariant-loop-i
invariant-loop-i l = (k : ℕ) (d : ArangeSet) → k < l.i → (slice_index_or l.after k d).unit ≡ (slice_index_or l.before k d).unit
