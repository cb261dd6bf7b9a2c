use Rattle.tidy_lists.specs.inside.Compared.{OfBoth}
use Rattle.tidy_lists.specs.inside.NamedNumbers.{Adds, Below, ArePairedBySlot}
use Rattle.tidy_lists.proofs.followers.push_part.Given as goal

abbrev pub invariant-loop-slot : goal.invariant-loop-slot
invariant-loop-slot l = OfBoth l.before l.after (λ r s. Adds (Below (ArePairedBySlot l.kind r s l.part) l.slot) l.fn.pairs.items l.pairs.items)
