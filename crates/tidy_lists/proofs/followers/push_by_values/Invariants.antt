use Rattle.tidy_lists.specs.inside.Compared.{OfBoth}
use Rattle.tidy_lists.specs.inside.NamedNumbers.{Adds, Below, ArePairedIn}
use Rattle.tidy_lists.proofs.followers.push_by_values.Given as goal

abbrev pub invariant-loop-unit : goal.invariant-loop-unit
invariant-loop-unit l = OfBoth l.before l.after (λ r s. Adds (Below (ArePairedIn l.sought r s) l.unit) l.fn.pairs.items l.pairs.items)
