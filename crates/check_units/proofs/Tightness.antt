-- A record that is accepted shows that each slot has just the bytes that its number needs.
use Rattle.std.proofs.Common.{◌≡◌, ◌≤◌, ◌<◌, ◌+◌, ℕ, zero, suc, List, length, get_or, ltb, ◌∙◌, sym, subst, arith}
use Rattle.std.specs.Prelude.{count_by}
use Rattle.std.proofs.lemmas.Bool.Decides.{nat_tests}
use Rattle.leb_codec.specs.LebLaws.{UnsignedLens}
use Rattle.leb_codec.specs.Layout.{SlotForm, uleb, call, SlotRow, row_at, slot_number, need, size_after, steps_to, sizes_below, ranks_by_slot, ranks_at, AcceptsSlot, AcceptsLayout}
use Rattle.slot_layout.specs.Rows.{CanBeSizes, IsTight}
use Rattle.slot_layout.proofs.SizeLaws.{need_some, need_rises, number_rises}
use Rattle.slot_layout.proofs.RankLaws.{length_below, below_at}
use Rattle.check_units.proofs.DealLaws.{by_slot_length}
use Rattle.check_units.proofs.Lowest.{size_is, count_all}

-- more steps lead to no smaller size
steps_grow : (form : SlotForm) (c d : ℕ) → c ≤ d → size_after form c ≤ size_after form d
steps_grow uleb c d more = omega arith
steps_grow call c d more = omega arith

-- each number needs the smallest size
smallest_needed : UnsignedLens → (form : SlotForm) (v : ℕ) → size_after form 0 ≤ need form v
smallest_needed laws uleb v = need_some laws uleb v
smallest_needed laws call v = grind (arith, nat_tests)

module _ (laws : UnsignedLens) (rows : List SlotRow) (sizes ranks : List ℕ) (can : CanBeSizes rows sizes) (accepted : (i : ℕ) → i < length rows → AcceptsSlot rows sizes ranks i) where
  -- the steps of lower rank lead to no more than the sizes
  below_low : (t i : ℕ) → i < length rows → get_or (sizes_below t rows (ranks_by_slot rows sizes ranks)) i 0 ≤ get_or sizes i 0
  below_low t i inside =
      let form : SlotForm = (row_at rows i).form in
      let own : List ℕ = ranks_at rows sizes ranks i in
      let at = below_at t rows (ranks_by_slot rows sizes ranks) i (by_slot_length rows sizes ranks can.each_slot) inside in
      let few : count_by (λ x. ltb x t) own ≤ steps_to form (get_or sizes i 0) = omega (arith, count_all t own, (accepted i inside).there) in
      let grown = steps_grow form (count_by (λ x. ltb x t) own) (steps_to form (get_or sizes i 0)) few in
      omega (arith, at, grown, size_is form (get_or sizes i 0) (can.sized i inside))

  -- so what a step needed then, the slot's number needs under the sizes
  step_needed : (i k : ℕ) → i < length rows → k < length (ranks_at rows sizes ranks i) → size_after (row_at rows i).form (k + 1) ≤ need (row_at rows i).form (slot_number sizes (row_at rows i))
  step_needed i k inside lt =
      let t : ℕ = get_or (ranks_at rows sizes ranks i) k 0 in
      let then : List ℕ = sizes_below t rows (ranks_by_slot rows sizes ranks) in
      let long : length then ≡ length rows = length_below t rows (ranks_by_slot rows sizes ranks) (by_slot_length rows sizes ranks can.each_slot) in
      let number = number_rises then sizes (row_at rows i) (long ∙ sym can.each_slot) (λ j l. below_low t j (omega arith)) in
      let rises = need_rises laws (row_at rows i).form (slot_number then (row_at rows i)) (slot_number sizes (row_at rows i)) number in
      omega (arith, (accepted i inside).needed k lt, rises)

  size_needed : (i c : ℕ) → i < length rows → length (ranks_at rows sizes ranks i) ≡ c → size_after (row_at rows i).form c ≤ need (row_at rows i).form (slot_number sizes (row_at rows i))
  size_needed i zero inside is = smallest_needed laws (row_at rows i).form (slot_number sizes (row_at rows i))
  size_needed i (suc c) inside is =
      let last = step_needed i c inside (omega (arith, is)) in
      let e : c + 1 ≡ suc c = omega arith in
      subst (λ (n : ℕ). size_after (row_at rows i).form n ≤ need (row_at rows i).form (slot_number sizes (row_at rows i))) e last

pub accepted_tight : UnsignedLens → (rows : List SlotRow) (sizes ranks : List ℕ) → CanBeSizes rows sizes → AcceptsLayout rows sizes ranks → IsTight rows sizes
accepted_tight laws rows sizes ranks can accepts i inside =
    let own = accepts.slots i inside in
    let most = size_needed laws rows sizes ranks can accepts.slots i (steps_to (row_at rows i).form (get_or sizes i 0)) inside own.there in
    omega (arith, most, own.holds.enough, size_is (row_at rows i).form (get_or sizes i 0) (can.sized i inside))
