use Rattle.std.proofs.Common.{ℕ, List, subst}
use Rattle.std.specs.List.Sorted.{IsPermutation}
use Rattle.value_links.proofs.NamingOrder.{sorted_namings}
use Rattle.value_links.proofs.views.by_list.Goals as goal

pub returns : goal.returns
returns c =
    let turned : List (ℕ × ℕ) = c.sort_unstable.new.self.items in
    record {
      moved = subst (λ (z : List (ℕ × ℕ)). IsPermutation z turned) c.in_ok-turned.ensures c.sort_unstable.ensures.permutation;
      order = sorted_namings turned c.sort_unstable.ensures.sorted;
    }
