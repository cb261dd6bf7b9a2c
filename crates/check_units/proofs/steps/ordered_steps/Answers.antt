use Rattle.std.proofs.Common.{List, subst, rules}
use Rattle.std.specs.List.Sorted.{IsPermutation}
use Rattle.std.proofs.lemmas.List.Sorted.{IsNonDecreasingBy-from_sort_by_key}
use Rattle.check_units.specs.declared.steps.Step.{Step}
use Rattle.check_units.proofs.steps.ordered_steps.Goals as goal

pub returns : goal.returns
returns c = record {
  moved = subst (λ (steps : List Step). IsPermutation steps c.sort_unstable_by_key.new.self.items) c.in_ok-steps.ensures c.sort_unstable_by_key.ensures.permutation;
  rising = IsNonDecreasingBy-from_sort_by_key (λ (step : Step). step.rank) _ c.sort_unstable_by_key.ensures.sorted (λ a r q k. search rules);
}
