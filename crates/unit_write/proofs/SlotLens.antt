-- How many bytes the values of a unit get that are expressions or references within it.
use Rattle.std.proofs.Common.{◌≡◌, ◌≤◌, ◌<◌, ◌+◌, ◌*◌, ℕ, suc, List, length, get_or, take, sum, set, slice_range, All, ◌∙◌, sym, ap, subst, arith, inl, inr}
use Rattle.std.proofs.lemmas.Bool.{cases_lt}
use Rattle.std.proofs.lemmas.List.{get_or-set_same, get_or-set_other, length-set}
use Rattle.std.proofs.lemmas.List.Sums.{sum_by-le}
use Rattle.unit_write.proofs.SlotLists.{sum_next}

-- small sizes have a small sum
pub sizes_sum : (sizes : List ℕ) → All (λ (size : ℕ). size ≤ 5) sizes → sum sizes ≤ 5 * length sizes
sizes_sum sizes small = let few = sum_by-le (λ (size : ℕ). size) 5 sizes small in omega (arith, few)

-- the first values have the sizes of their slots, and so many are used
pub record AreSizesAdded (fixed slots sizes : List ℕ) (number slot : ℕ) (lens : List ℕ) : Type 0 where
  pub used : slot ≡ sum (take number slots)
  pub count : length lens ≡ length fixed
  pub added : (k : ℕ) → k < number → get_or lens k 0 ≡ get_or fixed k 0 + sum (slice_range sizes (sum (take k slots)) (sum (take (suc k) slots)))
  pub left : (k : ℕ) → number ≤ k → get_or lens k 0 ≡ get_or fixed k 0

module _ (fixed slots sizes : List ℕ) where
  pub more_added : (number slot size : ℕ) (lens : List ℕ) → number < length fixed → AreSizesAdded fixed slots sizes number slot lens → size ≡ sum (slice_range sizes slot (slot + get_or slots number 0)) → AreSizesAdded fixed slots sizes (number + 1) (slot + get_or slots number 0) (set lens number (get_or lens number 0 + size))
  more_added number slot size lens lt h is =
      let used : slot ≡ sum (take number slots) = h.used in
      let next : sum (take (suc number) slots) ≡ slot + get_or slots number 0 = let more = sum_next slots number in omega (arith, more, used) in
      let on : number + 1 ≡ suc number = omega arith in
      let count : length lens ≡ length fixed = h.count in
      let own : size ≡ sum (slice_range sizes (sum (take number slots)) (sum (take (suc number) slots))) = is ∙ ap (λ (n : ℕ). sum (slice_range sizes n (slot + get_or slots number 0))) used ∙ ap (λ (n : ℕ). sum (slice_range sizes (sum (take number slots)) n)) (sym next) in
      record {
        used = sym next ∙ ap (λ (n : ℕ). sum (take n slots)) (sym on);
        count = length-set lens number (get_or lens number 0 + size) ∙ count;
        added = λ k less. elim (cases_lt k number) [
          | inl before ↦ get_or-set_other lens number k (get_or lens number 0 + size) 0 (λ e. omega arith) ∙ h.added k before
          | inr most ↦
              let same : number ≡ k = omega arith in
              subst (λ (j : ℕ). get_or (set lens number (get_or lens number 0 + size)) j 0 ≡ get_or fixed j 0 + sum (slice_range sizes (sum (take j slots)) (sum (take (suc j) slots)))) same
              (get_or-set_same lens number (get_or lens number 0 + size) 0 (omega arith) ∙ ap (λ (n : ℕ). n + size) (h.left number (omega arith)) ∙ ap (λ (n : ℕ). get_or fixed number 0 + n) own)
        ];
        left = λ k more. get_or-set_other lens number k (get_or lens number 0 + size) 0 (λ e. omega arith) ∙ h.left k (omega arith);
      }
