use Rattle.same_meaning.specs.inside.Compared.{OfBoth, AreSameLists}
use Rattle.same_meaning.proofs.PartMeanings.{SameSlots}
use Rattle.same_meaning.proofs.parts.mean_same_part.Given as goal

abbrev pub invariant-loop-slot : goal.invariant-loop-slot
invariant-loop-slot l = record {
  slots : OfBoth l.before l.after (λ r s. SameSlots r s l.kind l.part l.slot);
  lists : AreSameLists l.before l.after l.lists;
}
