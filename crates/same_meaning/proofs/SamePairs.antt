-- Pairs of lists that are kept as meaning the same.
use Rattle.std.proofs.Common.{◌≡◌, ℕ, List, true, Ordering}
use Rattle.std.specs.List.{All, list_any}
use Rattle.std.specs.Ordering.{nat_cmp, ordering_then, eq_by_cmp}
use Rattle.std.proofs.lemmas.List.Elements.{All-contains}
use Rattle.std.proofs.lemmas.Map.Lookups.{exact_pairs, exact_unsigned}
use Rattle.std.proofs.lemmas.Map.Views.{Contains-from_any, tells_apart}

abbrev pub compare_places : ℕ × ℕ → ℕ × ℕ → Ordering
compare_places p q = ordering_then (nat_cmp p.0 q.0) (nat_cmp p.1 q.1)

-- what holds of all pairs holds of one that is found among them
pub holds_of_found : (P : ℕ × ℕ → Type 0) (pairs : List (ℕ × ℕ)) (at : ℕ × ℕ) → All P pairs → list_any (eq_by_cmp compare_places at) pairs ≡ true → P at
holds_of_found P pairs at all found =
    All-contains P pairs at all (Contains-from_any {eq = eq_by_cmp compare_places} (tells_apart (exact_pairs nat_cmp nat_cmp exact_unsigned exact_unsigned)) at pairs found)
