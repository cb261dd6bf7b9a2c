use Rattle.std.proofs.Common.{◌<◌, ℕ}
use Rattle.same_meaning.specs.inside.Compared.{OfBoth, MeanOne, AreSameLists}
use Rattle.same_meaning.specs.inside.Values.{MeansColumn}
use Rattle.same_meaning.proofs.attributes.mean_same_attributes.Given as goal

abbrev pub invariant-loop-column : goal.invariant-loop-column
invariant-loop-column l = record {
  columns : OfBoth l.before l.after (λ r s. (k : ℕ) → k < l.column → MeanOne (MeansColumn r l.unit l.id k) (MeansColumn s l.unit l.id k));
  lists : AreSameLists l.before l.after l.lists;
}
