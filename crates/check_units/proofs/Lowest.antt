-- A record that is accepted shows that no layout is smaller anywhere.
use Rattle.std.proofs.Common.{◌≡◌, ◌≤◌, ◌<◌, ◌+◌, inl, inr, ℕ, zero, suc, List, [], ◌∷◌, length, get_or, ltb, cond, sym, ◌∙◌, refl, subst, arith}
use Rattle.std.specs.Prelude.{count_by}
use Rattle.std.specs.List.Sorted.{IsNonDecreasing}
use Rattle.std.proofs.lemmas.Bool.{cases_lt, cond-true, cond-false, lt-ltb, le-ltb}
use Rattle.std.proofs.lemmas.List.Sums.{sum_by-cons}
use Rattle.leb_codec.specs.LebLaws.{UnsignedLens}
use Rattle.leb_codec.specs.Layout.{SlotForm, uleb, call, SlotRow, row_at, slot_number, size_after, steps_to, sizes_below, ranks_by_slot, ranks_at, IsLayout, AcceptsSlot, AcceptsLayout, IsLowestLayout, IsLeastLayout}
use Rattle.slot_layout.specs.Rows.{CanHaveSize, CanBeSizes}
use Rattle.slot_layout.proofs.SizeLaws.{smallest_least, need_rises, number_rises}
use Rattle.slot_layout.proofs.SumLaws.{sum_rises}
use Rattle.slot_layout.proofs.RankLaws.{length_below, below_at}
use Rattle.check_units.proofs.DealLaws.{by_slot_length}

-- the steps to a size lead to it
pub size_is : (form : SlotForm) (size : ℕ) → CanHaveSize form size → size_after form (steps_to form size) ≡ size
size_is uleb size some = omega (arith, some)
size_is call size (inl two) = rw two refl
size_is call size (inr four) = rw four refl

-- no more are below than stand before those that aren't
count_low : (t : ℕ) (xs : List ℕ) (j : ℕ) → ((k : ℕ) → j ≤ k → k < length xs → t ≤ get_or xs k 0) → count_by (λ x. ltb x t) xs ≤ j
count_low t [] j high = omega arith
count_low t (x ∷ xs) zero high =
    let no = cond-false {A = ℕ} (ltb x t) 1 0 (le-ltb x t (high 0 (omega arith) (omega arith))) in
    let rest = count_low t xs zero (λ k low lt. high (suc k) (omega arith) (omega arith)) in
    omega (arith, sum_by-cons (λ y. cond (ltb y t) 1 0) x xs, no, rest)
count_low t (x ∷ xs) (suc j) high =
    let rest = count_low t xs j (λ k low lt. high (suc k) (omega arith) (omega arith)) in
    let one : cond {A = ℕ} (ltb x t) 1 0 ≤ 1 = elim (cases_lt x t) [
      | inl less ↦ let e = cond-true {A = ℕ} (ltb x t) 1 0 (lt-ltb x t less) in omega (arith, e)
      | inr more ↦ let e = cond-false {A = ℕ} (ltb x t) 1 0 (le-ltb x t more) in omega (arith, e)
    ]
    in
    omega (arith, sum_by-cons (λ y. cond (ltb y t) 1 0) x xs, one, rest)

pub count_all : (t : ℕ) (xs : List ℕ) → count_by (λ x. ltb x t) xs ≤ length xs
count_all t xs = count_low t xs (length xs) (λ k low lt. absurd (omega arith))

-- of ranks that never fall, the last one that is below is below
last_below : (t : ℕ) (xs : List ℕ) (c : ℕ) → IsNonDecreasing xs → count_by (λ x. ltb x t) xs ≡ suc c → get_or xs c 0 < t
last_below t xs c rising is =
    elim (cases_lt (get_or xs c 0) t) [
      | inl less ↦ less
      | inr more ↦
          let few = count_low t xs c (λ k low lt. let up = rising c k 0 low lt in omega (arith, up, more)) in
          absurd (omega (arith, few, is))
    ]

module _ (laws : UnsignedLens) (rows : List SlotRow) (sizes ranks : List ℕ) (long : length sizes ≡ length rows) (accepted : (i : ℕ) → i < length rows → AcceptsSlot rows sizes ranks i) (other : List ℕ) (layout : IsLayout rows other) where
  -- what the steps of lower rank need, each layout has
  abbrev Holds : ℕ → Type 0
  Holds t = (i : ℕ) → i < length rows → get_or (sizes_below t rows (ranks_by_slot rows sizes ranks)) i 0 ≤ get_or other i 0

  -- a step of a rank up to which this holds leads to no more than each layout has
  step_low : (i k : ℕ) → i < length rows → k < length (ranks_at rows sizes ranks i) → Holds (get_or (ranks_at rows sizes ranks i) k 0) → size_after (row_at rows i).form (k + 1) ≤ get_or other i 0
  step_low i k inside lt holds =
      let t : ℕ = get_or (ranks_at rows sizes ranks i) k 0 in
      let lists = ranks_by_slot rows sizes ranks in
      let size : length (sizes_below t rows lists) ≡ length rows = length_below t rows lists (by_slot_length rows sizes ranks long) in
      let same : length other ≡ length rows = layout.same_length in
      let wanted = (accepted i inside).needed k lt in
      let number = number_rises (sizes_below t rows lists) other (row_at rows i) (omega arith) (λ j l. holds j (omega arith)) in
      let rises = need_rises laws (row_at rows i).form (slot_number (sizes_below t rows lists) (row_at rows i)) (slot_number other (row_at rows i)) number in
      let enough = (layout.holds i inside).enough in
      omega (arith, wanted, rises, enough)

  counted_low : (t i c : ℕ) → i < length rows → ((u : ℕ) → u < t → Holds u) → count_by (λ x. ltb x t) (ranks_at rows sizes ranks i) ≡ c → size_after (row_at rows i).form c ≤ get_or other i 0
  counted_low t i zero inside lower is = smallest_least (row_at rows i).form (get_or other i 0) (layout.sized i inside)
  counted_low t i (suc c) inside lower is =
      let few = count_all t (ranks_at rows sizes ranks i) in
      let rank = last_below t (ranks_at rows sizes ranks i) c (accepted i inside).rising is in
      let low = step_low i c inside (omega (arith, few, is)) (lower (get_or (ranks_at rows sizes ranks i) c 0) rank) in
      subst (λ (n : ℕ). size_after (row_at rows i).form n ≤ get_or other i 0) (let e : c + 1 ≡ suc c = omega arith in e) low

  holds_next : (t : ℕ) → ((u : ℕ) → u < t → Holds u) → Holds t
  holds_next t lower i inside =
      let e = below_at t rows (ranks_by_slot rows sizes ranks) i (by_slot_length rows sizes ranks long) inside in
      let low = counted_low t i (count_by (λ x. ltb x t) (ranks_at rows sizes ranks i)) inside lower refl in
      omega (arith, e, low)

  holds_below : (n t : ℕ) → t < n → Holds t
  holds_below zero t lt = absurd (omega arith)
  holds_below (suc n) t lt = holds_next t (λ u less. holds_below n u (omega arith))

  steps_low : (i c : ℕ) → i < length rows → length (ranks_at rows sizes ranks i) ≡ c → size_after (row_at rows i).form c ≤ get_or other i 0
  steps_low i zero inside is = smallest_least (row_at rows i).form (get_or other i 0) (layout.sized i inside)
  steps_low i (suc c) inside is =
      let rank : ℕ = get_or (ranks_at rows sizes ranks i) c 0 in
      let low = step_low i c inside (omega (arith, is)) (holds_below (suc rank) rank (omega arith)) in
      subst (λ (n : ℕ). size_after (row_at rows i).form n ≤ get_or other i 0) (let e : c + 1 ≡ suc c = omega arith in e) low

pub accepted_lowest : UnsignedLens → (rows : List SlotRow) (sizes ranks : List ℕ) → CanBeSizes rows sizes → AcceptsLayout rows sizes ranks → IsLowestLayout rows sizes
accepted_lowest laws rows sizes ranks can accepts other layout i inside =
    let there = (accepts.slots i inside).there in
    let low = steps_low laws rows sizes ranks can.each_slot accepts.slots other layout i (steps_to (row_at rows i).form (get_or sizes i 0)) inside there in
    let is = size_is (row_at rows i).form (get_or sizes i 0) (can.sized i inside) in
    omega (arith, low, is)

pub accepted_least : UnsignedLens → (rows : List SlotRow) (sizes ranks : List ℕ) → CanBeSizes rows sizes → AcceptsLayout rows sizes ranks → IsLayout rows sizes → IsLeastLayout rows sizes
accepted_least laws rows sizes ranks can accepts layout = record {
  member = layout;
  least = λ other member. sum_rises sizes other (layout.same_length ∙ sym member.same_length) (λ i lt. accepted_lowest laws rows sizes ranks can accepts other member i (omega (arith, layout.same_length)));
}
