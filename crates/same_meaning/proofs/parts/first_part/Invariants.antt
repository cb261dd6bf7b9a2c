use Rattle.std.proofs.Common.{◌<◌, ℕ}
use Rattle.same_meaning.specs.inside.Compared.{OfBoth, AreSameLists}
use Rattle.same_meaning.proofs.PartMeanings.{SameParts}
use Rattle.same_meaning.proofs.parts.first_part.Given as goal

abbrev pub invariant-loop-part : goal.invariant-loop-part
invariant-loop-part l = record {
  parts : (k : ℕ) → k < l.part → OfBoth l.before l.after (λ r s. SameParts r s l.kind k);
  lists : AreSameLists l.before l.after l.lists;
}
