-- A unit whose slots are laid out: what is needed for it, and how many bytes its values get.
use Rattle.std.proofs.Common.{◌≡◌, ◌≤◌, ◌<◌, ◌+◌, ◌-◌, ◌*◌, ◌^◌, ℕ, suc, List, length, get_or, take, drop, sum, slice_range, All, Bool, true, false, ◌∙◌, sym, ap, refl, arith}
use Rattle.std.specs.Prelude.{if◌then◌else◌, nat_lt}
use Rattle.std.proofs.lemmas.Bool.{both_ways}
use Rattle.std.proofs.lemmas.List.{get_or_default, length-take, take_all}
use Rattle.std.proofs.lemmas.List.Elements.{All-take, All-drop}
use Rattle.dw_base.specs.declared.fault.Reach.{Reach}
use Rattle.leb_codec.specs.Layout.{SlotForm, SlotRow, uleb, call, row_at, slot_number, need, HasNarrowNumbers}
use Rattle.leb_codec.proofs.Lens.{unsigned_lens}
use Rattle.slot_layout.specs.Rows.{IsTight}
use Rattle.expr_ops.specs.Expressions.{Operation}
use Rattle.expr_ops.specs.Ops.{all_meant}
use Rattle.expr_ops.specs.Shortest.{fixed_length}
use Rattle.expr_ops.specs.Slots.{slots_among, SlotsHaveOpcodes}
use Rattle.expr_ops.proofs.PlainLaws.{expression_sized}
use Rattle.form_codec.specs.declared.value.Value.{Value}
use Rattle.form_codec.specs.Forms.{Meaning}
use Rattle.form_codec.specs.Forms.Meaning.{InUnit}
use Rattle.form_codec.specs.Values.{bytes_in, meant_in}
use Rattle.entry_arena.specs.Arena.{Arena}
use Rattle.entry_arena.specs.Operations.{HeldOps, ops_of}
use Rattle.entry_read.specs.Expressions.{HasOperations}
use Rattle.entry_read.specs.Slots.{is_local, value_aims, aims_of, meaning_at, operations_in, slots_before}
use Rattle.unit_write.specs.declared.measure.Measured.{Measured}
use Rattle.unit_write.specs.Lens.{AreLensFor, AreLensUnder}
use Rattle.unit_write.specs.inside.Marks.{AreLensWith, AreMeasured, AreSlotNumbers, AreShort}
use Rattle.unit_write.proofs.SlotAims.{slots_next, slots_summed, op_aims_length}
use Rattle.unit_write.proofs.SlotMeasures.{expr_ops_are, other_ops, fixed_small}
use Rattle.unit_write.proofs.SlotLens.{sizes_sum}

-- FIVE BYTES

need_small : (form : SlotForm) (n : ℕ) → n < 2 ^ 32 → need form n ≤ 5
need_small uleb n few = (unsigned_lens.enough n 5).0 (record { some = omega arith; below = omega arith })
need_small call n few = two_or_four (nat_lt n 65536)
  where
    two_or_four : (b : Bool) → (if b then 2 else 4) ≤ 5
    two_or_four true = omega arith
    two_or_four false = omega arith

-- a number below 2^32 needs no more
pub sizes_small : (rows : List SlotRow) (sizes : List ℕ) → length sizes ≡ length rows → IsTight rows sizes → HasNarrowNumbers rows sizes → All (λ (size : ℕ). size ≤ 5) sizes
sizes_small rows sizes long tight narrow k d lt =
    let inside : k < length rows = omega (arith, long, lt) in
    let size = tight k inside in
    let small = need_small (row_at rows k).form (slot_number sizes (row_at rows k)) (narrow k inside) in
    let same : get_or sizes k d ≡ get_or sizes k 0 = get_or_default sizes k d 0 lt in
    omega (arith, size, small, same)

-- WHAT VALUES GET

module _ (f : Arena) (ops : ℕ → List Operation) (measured : Measured) (h : AreMeasured f ops measured) where
  numbered : AreSlotNumbers f ops measured.slots.items
  numbered = record { count = h.slots_count; each = h.slots }

  -- the slots of all values
  pub all_slots : sum measured.slots.items ≡ length (aims_of f ops)
  all_slots =
      let count = h.slots_count in
      ap sum (sym (take_all (length f.values) measured.slots.items (omega (arith, count)))) ∙ slots_summed f ops measured.slots.items numbered (length f.values) (omega arith)

  pub lens_under : (sizes lens : List ℕ) → AreLensWith measured.fixed.items measured.slots.items sizes lens → AreLensUnder f ops sizes lens
  lens_under sizes lens added = record {
    count = added.count ∙ h.fixed_count;
    each = λ k lt.
        let count : length measured.fixed.items ≡ length f.values = h.fixed_count in
        let low = slots_summed f ops measured.slots.items numbered k (omega arith) in
        let high = slots_summed f ops measured.slots.items numbered (suc k) (omega arith) in
        added.each k (omega (arith, count, lt))
        ∙ ap (λ (n : ℕ). n + sum (slice_range sizes (sum (take k measured.slots.items)) (sum (take (suc k) measured.slots.items)))) (h.fixed k lt)
        ∙ ap (λ (n : ℕ). fixed_length (ops k) + sum (slice_range sizes n (sum (take (suc k) measured.slots.items)))) low
        ∙ ap (λ (n : ℕ). fixed_length (ops k) + sum (slice_range sizes (slots_before f ops k) n)) high;
  }

  -- with five bytes for each slot
  len_most : (sizes lens : List ℕ) (k : ℕ) → AreLensUnder f ops sizes lens → All (λ (size : ℕ). size ≤ 5) sizes → k < length f.values → get_or lens k 0 ≤ fixed_length (ops k) + 5 * length (value_aims (meaning_at f k) (ops k))
  len_most sizes lens k under small lt =
      let from : ℕ = slots_before f ops k in
      let count : ℕ = slots_before f ops (suc k) - from in
      let part : List ℕ = take count (drop from sizes) in
      let own = under.each k lt in
      let few = sizes_sum part (All-take (λ (size : ℕ). size ≤ 5) count (drop from sizes) (All-drop (λ (size : ℕ). size ≤ 5) from sizes small)) in
      let long = length-take count (drop from sizes) in
      let next = slots_next f ops k in
      omega (arith, own, few, long, next)

local_few : (meaning : Meaning) (os : List Operation) → is_local meaning ≡ true → length (value_aims meaning os) ≡ 1
local_few (InUnit n) os local = refl
local_few meaning os local = absurd (cc (local))

module _ (f : Arena) (held : HeldOps) (has : (reach : Reach) × HasOperations reach f held) (measured : Measured) (h : AreMeasured f (operations_in f held) measured) where
  -- so an expression gets at most three times its bytes and five for its length, and a reference five
  pub lens_laid : (sizes lens : List ℕ) → AreLensUnder f (operations_in f held) sizes lens → All (λ (size : ℕ). size ≤ 5) sizes → AreLensFor f lens
  lens_laid sizes lens under small = record {
    each = under.count;
    few = λ k span is.
        let bytes : List ℕ = bytes_in f.section span in
        let os : List Operation = all_meant bytes (ops_of held k) in
        let most = len_most f (operations_in f held) measured h sizes lens k under small is.inside in
        let size = length-take span.len (drop span.at f.section) in
        let thrice : fixed_length os + 5 * slots_among os ≤ 3 * length bytes = (expression_sized has.0 os bytes (has.1.spelled k span is)).fives in
        let same : operations_in f held k ≡ os = expr_ops_are f held has k span is in
        let fixed : fixed_length (operations_in f held k) ≡ fixed_length os = ap fixed_length same in
        let slots : length (value_aims (meaning_at f k) (operations_in f held k)) ≡ suc (slots_among os) = ap (λ (v : Value). length (value_aims (meant_in f.section v) (operations_in f held k))) is.is ∙ ap suc (op_aims_length (operations_in f held k) ∙ ap slots_among same) in
        omega (arith, most, size, thrice, fixed, slots);
    narrow = λ k lt local.
        let most = len_most f (operations_in f held) measured h sizes lens k under small lt in
        let none = other_ops f held has k (λ span is. let other : is_local (meaning_at f k) ≡ false = ap (λ (v : Value). is_local (meant_in f.section v)) is.is in both_ways (is_local (meaning_at f k)) other local) in
        let fixed : fixed_length (operations_in f held k) ≡ 0 = ap fixed_length none in
        let slots = local_few (meaning_at f k) (operations_in f held k) local in
        omega (arith, most, fixed, slots);
  }

-- the numbers that are added to are small
pub fixed_room : (f : Arena) (held : HeldOps) → (reach : Reach) × HasOperations reach f held → SlotsHaveOpcodes → AreShort f → (measured : Measured) → AreMeasured f (operations_in f held) measured → All (λ (len : ℕ). len < 2 ^ 31) measured.fixed.items
fixed_room f held has opcodes short measured h k d lt =
    let count : length measured.fixed.items ≡ length f.values = h.fixed_count in
    let small = fixed_small f held has opcodes short k (omega (arith, count, lt)) in
    let same : get_or measured.fixed.items k d ≡ get_or measured.fixed.items k 0 = get_or_default measured.fixed.items k d 0 lt in
    let own = h.fixed k (omega (arith, count, lt)) in
    omega (arith, small, same, own)
