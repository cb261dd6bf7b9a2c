-- The layout that the rounds end in, and the record of their steps.
use Rattle.std.proofs.Common.{◌≡◌, ◌≤◌, ◌<◌, inl, inr, ℕ, suc, ltb, List, [], length, get_or, take, sym, ap, ◌∙◌, arith}
use Rattle.std.specs.List.{count_by}
use Rattle.std.proofs.lemmas.Bool.{cases_lt}
use Rattle.std.proofs.lemmas.List.{ext_get_or, get_or-take, length-take-le}
use Rattle.std.proofs.lemmas.List.Sorted.{IsNonDecreasingBy-from_default}
use Rattle.leb_codec.specs.LebLaws.{UnsignedLens}
use Rattle.leb_codec.specs.Layout.{SlotForm, SlotRow, row_at, slot_number, need, size_after, steps_to, ranks_by_slot, sizes_below, need_below, ranks_at, AcceptsSlot, AcceptsLayout, HasFirstRanks}
use Rattle.slot_layout.specs.inside.Rounds.{AreSlots, AreRaised, NotesSlot, joined}
use Rattle.slot_layout.proofs.SizeLaws.{size_steps, step_within, step_past, steps_few, after_rises}
use Rattle.slot_layout.proofs.RoundLaws.{rounds, rounds_length, rounds_next, rounds_rise, rounds_small, rounds_sized, raised_is, still_member}
use Rattle.slot_layout.proofs.RankLaws.{IsRanked, ranked_next, ranked_same, count_front, fronts, AreLong, split_joined, joined_length, front_at, length_fronts, length_below, below_at}

module _ (laws : UnsignedLens) (rows : List SlotRow) (are : AreSlots rows) (t : ℕ) (still : rounds rows (suc t) ≡ rounds rows t) (lists : List (List ℕ)) (lists_length : length lists ≡ length rows) (ranked : (i : ℕ) → i < length rows → IsRanked rows t i (get_or lists i [])) where
  -- the form, the size after some rounds, the steps and the ranks of a slot
  abbrev form_at : ℕ → SlotForm
  form_at i = (row_at rows i).form

  abbrev size_at : ℕ → ℕ → ℕ
  size_at u i = get_or (rounds rows u) i 0

  abbrev steps_at : ℕ → ℕ
  steps_at i = steps_to (form_at i) (size_at t i)

  abbrev rank_at : ℕ → ℕ → ℕ
  rank_at i k = get_or (get_or lists i []) k 0

  four : (i : ℕ) → i < length rows → steps_at i ≤ 4
  four i inside = steps_few (form_at i) (size_at t i) ((rounds_small laws rows are t).each i (omega (arith, rounds_length rows t)))

  long : AreLong rows (rounds rows t) lists
  long = record {
    sizes_length = rounds_length rows t;
    lists_length = lists_length;
    each = λ i inside. omega (arith, four i inside, (ranked i inside).long);
  }

  by_slot : ranks_by_slot rows (rounds rows t) (joined rows (rounds rows t) lists) ≡ fronts rows (rounds rows t) lists
  by_slot = split_joined rows (rounds rows t) lists long

  own : (i : ℕ) → i < length rows → ranks_at rows (rounds rows t) (joined rows (rounds rows t) lists) i ≡ take (steps_at i) (get_or lists i [])
  own i inside =
      ap (λ (ls : List (List ℕ)). get_or ls i []) by_slot ∙ front_at rows (rounds rows t) lists i (rounds_length rows t) lists_length inside

  own_length : (i : ℕ) → i < length rows → length (take (steps_at i) (get_or lists i [])) ≡ steps_at i
  own_length i inside = length-take-le (steps_at i) (get_or lists i []) (long.each i inside)

  own_rank : (i k : ℕ) → k < steps_at i → get_or (take (steps_at i) (get_or lists i [])) k 0 ≡ rank_at i k
  own_rank i k below = get_or-take (steps_at i) (get_or lists i []) k 0 below

  -- a step's rank is below a round exactly where the sizes of that round have the step
  rank_low : (i k u : ℕ) → i < length rows → u ≤ t → k < steps_at i → k < steps_to (form_at i) (size_at u i) → rank_at i k < u
  rank_low i k u inside early step there =
      elim (cases_lt (rank_at i k) u) [
        | inl low ↦ low
        | inr high ↦ absurd (omega (arith, rounds_rise rows u (rank_at i k) i high inside, (ranked i inside).before k step, step_within (form_at i) (size_at u i) k (rounds_sized laws rows are u i inside) there))
      ]

  rank_high : (i k u : ℕ) → i < length rows → u ≤ t → k < steps_at i → steps_to (form_at i) (size_at u i) ≤ k → u ≤ rank_at i k
  rank_high i k u inside early step there =
      elim (cases_lt (rank_at i k) u) [
        | inl low ↦ absurd (omega (arith, rounds_rise rows (suc (rank_at i k)) u i (omega arith) inside, (ranked i inside).after k step, step_past (form_at i) (size_at u i) k (rounds_sized laws rows are u i inside) there))
        | inr high ↦ high
      ]

  steps_rise : (i u : ℕ) → i < length rows → u ≤ t → steps_to (form_at i) (size_at u i) ≤ steps_at i
  steps_rise i u inside early =
      elim (cases_lt (steps_at i) (steps_to (form_at i) (size_at u i))) [
        | inl more ↦ absurd (omega (arith, step_within (form_at i) (size_at u i) (steps_at i) (rounds_sized laws rows are u i inside) more, step_past (form_at i) (size_at t i) (steps_at i) (rounds_sized laws rows are t i inside) (omega arith), rounds_rise rows u t i early inside))
        | inr less ↦ less
      ]

  -- the steps of rank below a round give the sizes of that round
  below_rounds : (u : ℕ) → u ≤ t → sizes_below u rows (ranks_by_slot rows (rounds rows t) (joined rows (rounds rows t) lists)) ≡ rounds rows u
  below_rounds u early =
      let parts : List (List ℕ) = fronts rows (rounds rows t) lists in
      let parts_length : length parts ≡ length rows = length_fronts rows (rounds rows t) lists (rounds_length rows t) lists_length in
      let count : (i : ℕ) → i < length rows → count_by (λ rank. ltb rank u) (take (steps_at i) (get_or lists i [])) ≡ steps_to (form_at i) (size_at u i) = λ i inside.
      count_front (take (steps_at i) (get_or lists i [])) u (steps_to (form_at i) (size_at u i)) (omega (arith, own_length i inside, steps_rise i u inside early))
      (λ k l m. let b : k < steps_at i = omega (arith, own_length i inside) in omega (arith, own_rank i k b, rank_low i k u inside early b m))
      (λ k l m. let b : k < steps_at i = omega (arith, own_length i inside) in omega (arith, own_rank i k b, rank_high i k u inside early b m)) in
      let each : (i : ℕ) → i < length rows → get_or (sizes_below u rows parts) i 0 ≡ size_at u i = λ i inside.
      below_at u rows parts i parts_length inside
      ∙ ap (λ (ranks : List ℕ). size_after (form_at i) (count_by (λ rank. ltb rank u) ranks)) (front_at rows (rounds rows t) lists i (rounds_length rows t) lists_length inside)
      ∙ ap (size_after (form_at i)) (count i inside)
      ∙ size_steps (form_at i) (size_at u i) (rounds_sized laws rows are u i inside) in
      let same : sizes_below u rows parts ≡ rounds rows u = ext_get_or 0 (sizes_below u rows parts) (rounds rows u) (length_below u rows parts parts_length ∙ sym (rounds_length rows u)) (λ i l. each i (omega (arith, length_below u rows parts parts_length))) in
      ap (λ (ls : List (List ℕ)). sizes_below u rows ls) by_slot ∙ same

  need_is : (i u : ℕ) → u ≤ t → need_below u rows (rounds rows t) (joined rows (rounds rows t) lists) i ≡ need (form_at i) (slot_number (rounds rows u) (row_at rows i))
  need_is i u early = ap (λ (sizes : List ℕ). need (form_at i) (slot_number sizes (row_at rows i))) (below_rounds u early)

  rising : (i k l : ℕ) → i < length rows → k ≤ l → l < steps_at i → rank_at i k ≤ rank_at i l
  rising i k l inside up step =
      elim (cases_lt (rank_at i l) (rank_at i k)) [
        | inl falls ↦
            let first : k < steps_at i = omega arith in
            let sizes = rounds_rise rows (suc (rank_at i l)) (rank_at i k) i falls inside in
            absurd (omega (arith, after_rises (form_at i) k l (omega (arith, sizes, (ranked i inside).after l step, (ranked i inside).before k first))))
        | inr rises ↦ rises
      ]

  accepts_slot : (i : ℕ) → i < length rows → AcceptsSlot rows (rounds rows t) (joined rows (rounds rows t) lists) i
  accepts_slot i inside =
      let mine : List ℕ = take (steps_at i) (get_or lists i []) in
      record {
        there = ap (λ (ranks : List ℕ). length ranks) (own i inside) ∙ own_length i inside;
        rising = rw (own i inside) (IsNonDecreasingBy-from_default (λ x. x) mine 0 (λ k l up within.
            let last : l < steps_at i = omega (arith, own_length i inside) in
            omega (arith, own_rank i k (omega arith), own_rank i l last, rising i k l inside up last)));
        needed = λ k below.
            let step : k < steps_at i = omega (arith, ap (λ (ranks : List ℕ). length ranks) (own i inside), own_length i inside) in
            let rank : get_or (ranks_at rows (rounds rows t) (joined rows (rounds rows t) lists) i) k 0 ≡ rank_at i k = ap (λ (ranks : List ℕ). get_or ranks k 0) (own i inside) ∙ own_rank i k step in
            let past : rank_at i k < t = (ranked i inside).past k step in
            rw rank (omega (arith, need_is i (rank_at i k) (omega arith), rounds_next rows (rank_at i k) i inside, (ranked i inside).before k step, (ranked i inside).after k step));
        holds = (still_member laws rows are t still).holds i inside;
      }

  pub accepts : AcceptsLayout rows (rounds rows t) (joined rows (rounds rows t) lists)
  accepts = record {
    slots = accepts_slot;
    none_left = joined_length rows (rounds rows t) lists long;
  }

  pub first_ranks : HasFirstRanks rows (rounds rows t) (joined rows (rounds rows t) lists)
  first_ranks i k u inside below early =
      let step : k < steps_at i = omega (arith, ap (λ (ranks : List ℕ). length ranks) (own i inside), own_length i inside) in
      let rank : get_or (ranks_at rows (rounds rows t) (joined rows (rounds rows t) lists) i) k 0 ≡ rank_at i k = ap (λ (ranks : List ℕ). get_or ranks k 0) (own i inside) ∙ own_rank i k step in
      let past : rank_at i k < t = (ranked i inside).past k step in
      let before : u < rank_at i k = omega (arith, rank, early) in
      omega (arith, need_is i u (omega arith), rounds_next rows u i inside, rounds_rise rows (suc u) (rank_at i k) i before inside, (ranked i inside).before k step)

-- ---- from one round to the next

pub grown_sizes : (rows : List SlotRow) (t : ℕ) (old new : List ℕ) → old ≡ rounds rows t → AreRaised rows old new → new ≡ rounds rows (suc t)
grown_sizes rows t old new is raised = raised_is rows t new (rw is at raised)

pub grown_ranked : UnsignedLens → (rows : List SlotRow) → AreSlots rows → (t i : ℕ) (old new : List ℕ) (before after : List (List ℕ)) → i < length rows → old ≡ rounds rows t → new ≡ rounds rows (suc t) → IsRanked rows t i (get_or before i []) → NotesSlot rows old new t before after i → IsRanked rows (suc t) i (get_or after i [])
grown_ranked laws rows are t i old new before after inside is_old is_new ranked noted =
    let h = rw (is_old, is_new) at noted in
    ranked_next rows t i (get_or before i []) (get_or after i []) (rounds_sized laws rows are t i inside) (rounds_sized laws rows are (suc t) i inside) ranked h

pub settled : (rows : List SlotRow) (t : ℕ) (old new : List ℕ) → old ≡ rounds rows t → new ≡ old → AreRaised rows old new → rounds rows (suc t) ≡ rounds rows t
settled rows t old new is same raised = sym (grown_sizes rows t old new is raised) ∙ same ∙ is

pub settled_ranked : (rows : List SlotRow) (t i : ℕ) (old new : List ℕ) (before after : List (List ℕ)) → old ≡ rounds rows t → new ≡ old → IsRanked rows t i (get_or before i []) → NotesSlot rows old new t before after i → IsRanked rows t i (get_or after i [])
settled_ranked rows t i old new before after is same ranked noted =
    let h = rw (same, is) at noted in
    ranked_same rows t i (get_or before i []) (get_or after i []) ranked h
