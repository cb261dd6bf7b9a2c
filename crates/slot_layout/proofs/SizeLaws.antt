-- Sizes, steps and needs of slots.
use Rattle.std.proofs.Common.{◌≡◌, ◌≤◌, ◌<◌, ◌+◌, ◌^◌, ◌⊎◌, inl, inr, ℕ, max, List, length, get_or, ltb, refl, arith}
use Rattle.std.proofs.lemmas.Bool.{cases_lt, cases_eq, cond-true, cond-false, lt-ltb, le-ltb}
use Rattle.std.proofs.lemmas.Bool.Decides.{nat_tests}
use Rattle.leb_codec.specs.Leb.{least_unsigned_len}
use Rattle.leb_codec.specs.LebLaws.{UnsignedLens}
use Rattle.leb_codec.specs.Layout.{SlotForm, uleb, call, SlotRow, slot_number, need, IsSlotSize, size_after, steps_to}
use Rattle.slot_layout.specs.inside.Rounds.{AreSmall}
use Rattle.slot_layout.proofs.SumLaws.{sum_range-small, sum_range_rises}

pub size_steps : (form : SlotForm) (s : ℕ) → IsSlotSize form s → size_after form (steps_to form s) ≡ s
size_steps uleb s sized = omega (arith, sized.0)
size_steps call s (inl two) = rw two refl
size_steps call s (inr four) = rw four refl

-- a size has the steps that lead to it, and no more
pub step_within : (form : SlotForm) (s k : ℕ) → IsSlotSize form s → k < steps_to form s → size_after form (k + 1) ≤ s
step_within uleb s k sized below = omega (arith, sized.0)
step_within call s k (inl two) below = let h : k < 0 = rw two at below in absurd (omega arith)
step_within call s k (inr four) below = let h : k < 1 = rw four at below in omega (arith, four)

pub step_past : (form : SlotForm) (s k : ℕ) → IsSlotSize form s → steps_to form s ≤ k → s < size_after form (k + 1)
step_past uleb s k sized above = omega (arith, sized.0)
step_past call s k (inl two) above = omega (arith, two)
step_past call s k (inr four) above = let h : 1 ≤ k = rw four at above in omega (arith, four)

pub after_rises : (form : SlotForm) (k l : ℕ) → size_after form (l + 1) < size_after form (k + 1) → l < k
after_rises uleb k l h = omega arith
after_rises call k l h = omega arith

pub steps_few : (form : SlotForm) (s : ℕ) → s ≤ 5 → steps_to form s ≤ 4
steps_few uleb s few = omega arith
steps_few call s few =
    elim (cases_eq s 4) [
      | inl four ↦ rw four (omega arith)
      | inr other ↦ grind (arith, nat_tests)
    ]

pub smallest_sized : (form : SlotForm) → IsSlotSize form (size_after form 0)
smallest_sized uleb = (omega arith, omega arith)
smallest_sized call = inl refl

pub smallest_least : (form : SlotForm) (s : ℕ) → IsSlotSize form s → size_after form 0 ≤ s
smallest_least uleb s sized = omega (arith, sized.0)
smallest_least call s (inl two) = omega (arith, two)
smallest_least call s (inr four) = omega (arith, four)

pub smallest_few : (form : SlotForm) → size_after form 0 ≤ 5
smallest_few uleb = omega arith
smallest_few call = omega arith

module _ (laws : UnsignedLens) where
  pub need_rises : (form : SlotForm) (v w : ℕ) → v ≤ w → need form v ≤ need form w
  need_rises uleb v w below = laws.rises v w below
  need_rises call v w below = grind (arith, nat_tests)

  pub need_few : (form : SlotForm) (v : ℕ) → v < 2 ^ 32 → need form v ≤ 5
  need_few uleb v small =
      (laws.is_least v).least 5 (record { some = omega arith; below = omega arith })
  need_few call v small = grind (arith, nat_tests)

  pub need_some : (form : SlotForm) (v : ℕ) → 1 ≤ need form v
  need_some uleb v = (laws.is_least v).enough.some
  need_some call v = grind (arith, nat_tests)

  -- what a number needs is a size
  pub need_sized : (form : SlotForm) (v : ℕ) → v < 2 ^ 32 → IsSlotSize form (need form v)
  need_sized uleb v small = (need_some uleb v, omega (arith, need_few uleb v small))
  need_sized call v small =
      elim (cases_lt v 65536) [
        | inl narrow ↦ inl (cond-true {A = ℕ} (ltb v 65536) 2 4 (lt-ltb v 65536 narrow))
        | inr wide ↦ inr (cond-false {A = ℕ} (ltb v 65536) 2 4 (le-ltb v 65536 wide))
      ]

  -- the greater of a size and a need is a size
  pub grown_sized : (form : SlotForm) (s v : ℕ) → IsSlotSize form s → v < 2 ^ 32 → IsSlotSize form (max s (need form v))
  grown_sized uleb s v sized small =
      let few : least_unsigned_len v ≤ 5 = need_few uleb v small in
      (omega (arith, sized.0), omega (arith, sized.1, few))
  grown_sized call s v sized small = grown_call s v sized
    where
      grown_call : (s v : ℕ) → (s ≡ 2) ⊎ (s ≡ 4) → (max s (need call v) ≡ 2) ⊎ (max s (need call v) ≡ 4)
      grown_call s v sized =
          elim (cases_lt v 65536) [
            | inl narrow ↦ rw (cond-true {A = ℕ} (ltb v 65536) 2 4 (lt-ltb v 65536 narrow)) (elim sized [ inl two ↦ inl (omega (arith, two)) | inr four ↦ inr (omega (arith, four)) ])
            | inr wide ↦ rw (cond-false {A = ℕ} (ltb v 65536) 2 4 (le-ltb v 65536 wide)) (elim sized [ inl two ↦ inr (omega (arith, two)) | inr four ↦ inr (omega (arith, four)) ])
          ]

pub number_small : (sizes : List ℕ) (row : SlotRow) → AreSmall sizes → row.fixed < 2 ^ 31 → slot_number sizes row < 2 ^ 32
number_small sizes row small fixed = omega (arith, sum_range-small sizes row.from row.to small, fixed)

pub number_rises : (xs ys : List ℕ) (row : SlotRow) → length xs ≡ length ys → ((i : ℕ) → i < length xs → get_or xs i 0 ≤ get_or ys i 0) → slot_number xs row ≤ slot_number ys row
number_rises xs ys row long below = omega (arith, sum_range_rises xs ys row.from row.to long below)
