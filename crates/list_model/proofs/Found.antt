-- What is found by its key among things whose keys rise.
use Rattle.std.proofs.Common.{◌≡◌, ◌≢◌, ◌≤◌, ◌<◌, ℕ, List, length, get_or, sym, ap, arith, inl, inr, Less, Equal, Greater}
use Rattle.std.specs.Ordering.{nat_cmp, ordering_index}
use Rattle.std.specs.List.{HoldsAt}
use Rattle.std.specs.List.Sorted.{IsNonDecreasingBy, IsPartitionPoint}
use Rattle.std.proofs.lemmas.Cmp.{ranked}
use Rattle.std.proofs.lemmas.List.Sorted.{IsNonDecreasingBy-from_default}
use Rattle.std.proofs.lemmas.Bool.{cases_lt}
use Rattle.std.proofs.lemmas.Bool.Decides.{nat_tests}

module _ {X : Type 0} (key : X → ℕ) (xs : List X) (d : X) (rising : (i j : ℕ) → i < j → j < length xs → key (get_or xs i d) < key (get_or xs j d)) (k : ℕ) where
  comparisons_rise : IsNonDecreasingBy (λ x. ordering_index (nat_cmp (key x) k)) xs
  comparisons_rise = IsNonDecreasingBy-from_default (λ x. ordering_index (nat_cmp (key x) k)) xs d (λ i j le inside.
      let keys : key (get_or xs i d) ≤ key (get_or xs j d) = grind (arith, rising i j, λ (same : i ≡ j). ap (λ n. key (get_or xs n d)) same) in
      grind (arith, nat_tests))

  -- a search ends at a place of the key
  pub found : (i : ℕ) → HoldsAt (λ x. nat_cmp (key x) k ≡ Equal) xs i → key (get_or xs i d) ≡ k
  found i equal = ranked _ k _ (sym (equal d))

  -- or nothing has the key
  pub not_found : (at : ℕ) → (IsNonDecreasingBy (λ x. ordering_index (nat_cmp (key x) k)) xs → IsPartitionPoint (λ x. nat_cmp (key x) k ≡ Less) (λ x. nat_cmp (key x) k ≡ Greater) xs at) → (i : ℕ) → i < length xs → key (get_or xs i d) ≢ k
  not_found at parted i inside same =
      elim (cases_lt i at) [
        | inl l ↦
            let less : key (get_or xs i d) < k = ranked _ k _ (sym ((parted comparisons_rise).0 i d (omega arith) l)) in
            omega arith
        | inr g ↦
            let more : k < key (get_or xs i d) = ranked _ k _ (sym ((parted comparisons_rise).1 i d g inside)) in
            omega arith
      ]
