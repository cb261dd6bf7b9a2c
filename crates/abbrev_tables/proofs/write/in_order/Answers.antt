use Rattle.std.proofs.Common.{ℕ, List, subst}
use Rattle.std.specs.List.Sorted.{IsPermutation}
use Rattle.abbrev_tables.proofs.Puts.{rising}
use Rattle.abbrev_tables.proofs.write.in_order.Goals as goal

pub returns : goal.returns
returns c = record {
  used = subst (λ (z : List (ℕ × ℕ)). IsPermutation z c.sort_unstable.new.self.items) c.in_ok-order.ensures c.sort_unstable.ensures.permutation;
  rising = rising c.sort_unstable.new.self.items c.sort_unstable.ensures.sorted;
}
