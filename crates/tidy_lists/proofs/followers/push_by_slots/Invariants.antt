use Rattle.tidy_lists.specs.inside.Compared.{OfBoth}
use Rattle.tidy_lists.specs.inside.NamedNumbers.{Adds, Below, ArePairedInPart}
use Rattle.tidy_lists.proofs.followers.push_by_slots.Given as goal

abbrev pub invariant-loop-part : goal.invariant-loop-part
invariant-loop-part l = OfBoth l.before l.after (λ r s. Adds (Below (ArePairedInPart l.kind r s) l.part) l.fn.pairs.items l.pairs.items)
