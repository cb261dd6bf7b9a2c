-- Numbers of a list that are set one after the other, from the first on.
use Rattle.std.proofs.Common.{◌≡◌, ◌≤◌, ◌<◌, ◌+◌, ◌*◌, ℕ, suc, List, length, get_or, take, sum, set, map, slice_range, All, ◌∙◌, sym, subst, arith, inl, inr, ext_get_or}
use Rattle.std.proofs.lemmas.Bool.{cases_lt}
use Rattle.std.proofs.lemmas.List.{get_or-set_same, get_or-set_other, length-set, length-map, get_or-map}
use Rattle.std.proofs.lemmas.List.Sums.{sum_by-take-le}
use Rattle.slot_layout.specs.Rows.{most_slots}
use Rattle.unit_write.specs.inside.Marks.{CountSizes, sizes_before}
use Rattle.unit_write.proofs.SlotLists.{sum_range}
use Rattle.unit_write.proofs.SlotLens.{sizes_sum}

-- so many of the first numbers are those that are wanted, and all others as they were
pub record AreSet (want : ℕ → ℕ) (old : List ℕ) (number : ℕ) (new : List ℕ) : Type 0 where
  pub count : length new ≡ length old
  pub done : (k : ℕ) → k < number → get_or new k 0 ≡ want k
  pub left : (k : ℕ) → number ≤ k → get_or new k 0 ≡ get_or old k 0

-- where one more is set
pub next_set : (want : ℕ → ℕ) (old : List ℕ) (number value : ℕ) (new : List ℕ) → number < length old → AreSet want old number new → value ≡ want number → AreSet want old (number + 1) (set new number value)
next_set want old number value new lt h is =
    let count : length new ≡ length old = h.count in
    record {
      count = length-set new number value ∙ count;
      done = λ k less. elim (cases_lt k number) [
        | inl before ↦ get_or-set_other new number k value 0 (λ e. omega arith) ∙ h.done k before
        | inr most ↦
            let same : number ≡ k = omega arith in
            subst (λ (j : ℕ). get_or (set new number value) j 0 ≡ want j) same (get_or-set_same new number value 0 (omega arith) ∙ is)
      ];
      left = λ k more. get_or-set_other new number k value 0 (λ e. omega arith) ∙ h.left k (omega arith);
    }

-- where all are set by what they were, the list is mapped
pub all_set : (f : ℕ → ℕ) (old : List ℕ) (number : ℕ) (new : List ℕ) → length old ≤ number → AreSet (λ k. f (get_or old k 0)) old number new → new ≡ map f old
all_set f old number new all h =
    let count : length new ≡ length old = h.count in
    ext_get_or 0 new (map f old) (count ∙ sym (length-map old f)) (λ k lt. h.done k (omega arith) ∙ sym (get_or-map f old k 0 0 (omega arith)))

-- SIZES OF SLOTS

-- the sum of some of few sizes is small
pub front_small : (sizes : List ℕ) (count : ℕ) → All (λ (size : ℕ). size ≤ 5) sizes → length sizes ≤ most_slots → sum (take count sizes) ≤ 5 * most_slots
front_small sizes count small few =
    let part = sum_by-take-le (λ (size : ℕ). size) sizes count in
    let most = sizes_sum sizes small in
    omega (arith, part, most, few)

-- in place of the first counts stand the sizes of so many slots, and those up to `slot` are summed
pub record AreCountsSummed (counts sizes : List ℕ) (number slot sum_to : ℕ) (new : List ℕ) : Type 0 where
  pub set : AreSet (λ k. sum (take (get_or counts k 0) sizes)) counts number new
  pub low : number < length counts → slot ≤ get_or counts number 0
  pub total : sum_to ≡ sum (take slot sizes)

module _ (counts sizes : List ℕ) (number slot total : ℕ) (new : List ℕ) (lt : number < length counts) (h : AreCountsSummed counts sizes number slot total new) (own : ℕ) (is : own ≡ sum (slice_range sizes slot (get_or counts number 0))) where
  -- with these sizes the sum is that up to the next count
  next_total : total + own ≡ sum (take (get_or counts number 0) sizes)
  next_total =
      let low : slot ≤ get_or counts number 0 = h.low lt in
      let before : total ≡ sum (take slot sizes) = h.total in
      let both : sum (take (get_or counts number 0) sizes) ≡ sum (take slot sizes) + sum (slice_range sizes slot (get_or counts number 0)) = sum_range sizes slot (get_or counts number 0) low in
      omega arith

  -- the sum is that of some sizes, so that it is small
  pub total_small : All (λ (size : ℕ). size ≤ 5) sizes → length sizes ≤ most_slots → total + own ≤ 5 * most_slots
  total_small small few =
      let same = next_total in
      let part = front_small sizes (get_or counts number 0) small few in
      omega (arith, same, part)

  -- with one more count
  pub more_summed : CountSizes counts sizes → AreCountsSummed counts sizes (number + 1) (get_or counts number 0) (total + own) (set new number (total + own))
  more_summed fit = record {
    set = next_set (λ k. sum (take (get_or counts k 0) sizes)) counts number (total + own) new lt h.set next_total;
    low = λ more.
        let on : number + 1 ≡ suc number = omega arith in
        subst (λ (k : ℕ). get_or counts number 0 ≤ get_or counts k 0) (sym on) (fit.rising number (omega arith));
    total = next_total;
  }

-- all counts are replaced
pub counts_summed : (counts sizes : List ℕ) (number slot total : ℕ) (new : List ℕ) → length counts ≤ number → AreCountsSummed counts sizes number slot total new → new ≡ sizes_before sizes counts
counts_summed counts sizes number slot total new all h = all_set (λ (count : ℕ). sum (take count sizes)) counts number new all h.set
