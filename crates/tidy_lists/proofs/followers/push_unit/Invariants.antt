use Rattle.tidy_lists.specs.inside.Compared.{OfBoth}
use Rattle.tidy_lists.specs.inside.NamedNumbers.{Adds, Below, ArePairedBy}
use Rattle.tidy_lists.proofs.followers.push_unit.Given as goal

abbrev pub invariant-loop-number : goal.invariant-loop-number
invariant-loop-number l = OfBoth l.before l.after (λ r s. Adds (Below (ArePairedBy l.sought r s l.unit) l.number) l.fn.pairs.items l.pairs.items)
