use Rattle.std.proofs.Common.{ℕ, ◌<◌}
use Rattle.same_meaning.specs.inside.Compared.{OfMeanings, AreSameLists}
use Rattle.same_meaning.proofs.UnitMeanings.{AreSameAt}
use Rattle.same_meaning.proofs.units.first_entry.Given as goal

abbrev pub invariant-loop-unit : goal.invariant-loop-unit
invariant-loop-unit l = record {
  units : (u : ℕ) → u < l.unit → OfMeanings l.before l.after (λ c d. AreSameAt c d u);
  lists : AreSameLists l.before l.after l.lists;
}
