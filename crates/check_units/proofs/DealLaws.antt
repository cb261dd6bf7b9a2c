-- Ranks dealt out to slots.
use Rattle.std.proofs.Common.{◌≡◌, ◌≤◌, ◌<◌, ◌+◌, ◌-◌, ◌^◌, inl, inr, ℕ, zero, suc, min, List, [], ◌∷◌, ◌++◌, Bool, true, false, IsTrue, ◌↔◌, length, get_or, take, drop, sym, ap, ◌∙◌, refl, subst, arith}
use Rattle.std.specs.Prelude.{slice_range}
use Rattle.std.specs.List.Sorted.{IsNonDecreasing}
use Rattle.std.proofs.lemmas.Bool.{cases_lt, cases_eq, true≢false}
use Rattle.std.proofs.lemmas.List.{take_all, drop_all, drop-drop, length-drop, length_push, get_or_push, get_or_append_left, ext_get_or}
use Rattle.leb_codec.specs.Layout.{SlotForm, uleb, call, SlotRow, row_at, steps_to, step_count, ranks_by_slot}
use Rattle.slot_layout.specs.declared.slots.Slot.{Slot}
use Rattle.slot_layout.specs.Rows.{form_of, rows_of, CanHaveSize}
use Rattle.slot_layout.proofs.GrowLaws.{no_slot, row_is, count_rows}
use Rattle.check_units.specs.inside.Checks.{HasItsRanks}
use Rattle.check_units.specs.inside.Dealing.{steps_before, AreDealt, AreCuts, pieces}

pub by_slot_length : (rows : List SlotRow) (sizes ranks : List ℕ) → length sizes ≡ length rows → length (ranks_by_slot rows sizes ranks) ≡ length rows
by_slot_length [] sizes ranks e = refl
by_slot_length (row ∷ rows) [] ranks e = absurd (omega arith)
by_slot_length (row ∷ rows) (size ∷ sizes) ranks e = ap suc (by_slot_length rows sizes (drop (steps_to row.form size) ranks) (omega arith))

by_slot_at : (rows : List SlotRow) (sizes ranks : List ℕ) (i : ℕ) → length sizes ≡ length rows → i < length rows → get_or (ranks_by_slot rows sizes ranks) i [] ≡ take (steps_to (row_at rows i).form (get_or sizes i 0)) (drop (steps_before rows sizes i) ranks)
by_slot_at [] sizes ranks i long inside = absurd (omega arith)
by_slot_at (row ∷ rows) [] ranks i long inside = absurd (omega arith)
by_slot_at (row ∷ rows) (size ∷ sizes) ranks zero long inside = refl
by_slot_at (row ∷ rows) (size ∷ sizes) ranks (suc i) long inside =
    let n : ℕ = steps_to row.form size in
    by_slot_at rows sizes (drop n ranks) i (omega arith) (omega arith) ∙ ap (take (steps_to (row_at rows i).form (get_or sizes i 0))) (drop-drop (steps_before rows sizes i) n ranks)

pub steps_more : (rows : List SlotRow) (sizes : List ℕ) (i : ℕ) → length sizes ≡ length rows → i < length rows → steps_before rows sizes (i + 1) ≡ steps_before rows sizes i + steps_to (row_at rows i).form (get_or sizes i 0)
steps_more rows sizes i long inside = let e : i + 1 ≡ suc i = omega arith in rw e (more rows sizes i long inside)
  where
    more : (rows : List SlotRow) (sizes : List ℕ) (i : ℕ) → length sizes ≡ length rows → i < length rows → steps_before rows sizes (suc i) ≡ steps_before rows sizes i + steps_to (row_at rows i).form (get_or sizes i 0)
    more [] sizes i long inside = absurd (omega arith)
    more (row ∷ rows) [] i long inside = absurd (omega arith)
    more (row ∷ rows) (size ∷ sizes) zero long inside = omega arith
    more (row ∷ rows) (size ∷ sizes) (suc i) long inside = omega (arith, more rows sizes i (omega arith) (omega arith))

pub steps_all : (rows : List SlotRow) (sizes : List ℕ) → length sizes ≡ length rows → steps_before rows sizes (length rows) ≡ step_count rows sizes
steps_all rows sizes long =
    rw (take_all (length rows) rows (omega arith), take_all (length rows) sizes (omega (arith, long))) refl

-- one slot more has been dealt its ranks
pub deal_next : (slots : List Slot) (sizes : List ℕ) (count i start taken steps : ℕ) (old new : List ℕ) →
    length sizes ≡ length (rows_of slots) →
    i < length slots →
    length old ≡ i + 1 →
    start ≡ min (steps_before (rows_of slots) sizes i) count →
    ((k : ℕ) → k ≤ i → get_or old k 0 ≡ min (steps_before (rows_of slots) sizes k) count) →
    steps ≡ steps_to (form_of (get_or slots i no_slot).kind) (get_or sizes i 0) →
    taken ≡ min steps (count - start) →
    new ≡ old ++ (start + taken) ∷ [] →
    (length new ≡ i + 1 + 1) × (start + taken ≡ min (steps_before (rows_of slots) sizes (i + 1)) count) × ((k : ℕ) → k ≤ i + 1 → get_or new k 0 ≡ min (steps_before (rows_of slots) sizes k) count)
deal_next slots sizes count i start taken steps old new long inside size is each steps_are taken_is new_is =
    let form : (row_at (rows_of slots) i).form ≡ form_of (get_or slots i no_slot).kind = ap (λ (row : SlotRow). row.form) (row_is slots i inside) in
    let more = steps_more (rows_of slots) sizes i long (omega (arith, count_rows slots)) in
    let exact : steps ≡ steps_to (row_at (rows_of slots) i).form (get_or sizes i 0) = rw form steps_are in
    let next : start + taken ≡ min (steps_before (rows_of slots) sizes (i + 1)) count = omega (arith, is, more, exact, taken_is) in (
      ap (λ (xs : List ℕ). length xs) new_is ∙ omega (arith, length_push old (start + taken), size),
      next,
      λ k low. elim (cases_eq k (i + 1)) [
        | inl last ↦ rw (last, new_is) (get_or_push old (start + taken) 0 (i + 1) size ∙ next)
        | inr other ↦ rw (new_is, get_or_append_left old ((start + taken) ∷ []) 0 k (omega (arith, size, low, other))) (each k (omega (arith, low, other)))
      ],
    )

-- a part of a list, by ends that are no more than its length
part_is : (xs : List ℕ) (b s : ℕ) → slice_range xs (min b (length xs)) (min (b + s) (length xs)) ≡ take s (drop b xs)
part_is xs b s =
    elim (cases_lt (b + s) (length xs)) [
      | inl inside ↦
          let low : min b (length xs) ≡ b = omega arith in
          let high : min (b + s) (length xs) ≡ b + s = omega arith in
          let size : b + s - b ≡ s = omega arith in
          rw (low, high, size) refl
      | inr past ↦ elim (cases_lt b (length xs)) [
        | inl some ↦
            let low : min b (length xs) ≡ b = omega arith in
            let high : min (b + s) (length xs) ≡ length xs = omega arith in
            let rest = length-drop b xs in
            rw (low, high) (take_all (length xs - b) (drop b xs) (omega (arith, rest)) ∙ sym (take_all s (drop b xs) (omega (arith, rest))))
        | inr none ↦
            let low : min b (length xs) ≡ length xs = omega arith in
            let high : min (b + s) (length xs) ≡ length xs = omega arith in
            let empty : drop (length xs) xs ≡ [] = drop_all (length xs) xs (omega arith) in
            let gone : drop b xs ≡ [] = drop_all b xs none in
            rw (low, high, empty, gone) (take_all (length xs - length xs) [] (omega arith) ∙ sym (take_all s [] (omega arith)))
      ]
    ]

-- the piece at a place
pub piece_at : (ranks starts : List ℕ) (i : ℕ) → i + 1 < length starts → get_or (pieces ranks starts) i [] ≡ slice_range ranks (get_or starts i 0) (get_or starts (i + 1) 0)
piece_at ranks starts i inside = let e : i + 1 ≡ suc i = omega arith in rw e (at starts i (omega arith))
  where
    at : (starts : List ℕ) (i : ℕ) → suc i < length starts → get_or (pieces ranks starts) i [] ≡ slice_range ranks (get_or starts i 0) (get_or starts (suc i) 0)
    at [] i inside = absurd (omega arith)
    at (start ∷ []) i inside = absurd (omega arith)
    at (start ∷ end ∷ starts) zero inside = refl
    at (start ∷ end ∷ starts) (suc i) inside = at (end ∷ starts) i (omega arith)

pub piece_count : (ranks starts : List ℕ) → length (pieces ranks starts) ≡ length starts - 1
piece_count ranks [] = refl
piece_count ranks (start ∷ []) = refl
piece_count ranks (start ∷ end ∷ starts) = omega (arith, piece_count ranks (end ∷ starts))

steps_small : (form : SlotForm) (size : ℕ) → CanHaveSize form size → size < 2 ^ 32 → steps_to form size < 2 ^ 32
steps_small uleb size sized small = omega arith
steps_small call size (inl two) small = rw two (omega arith)
steps_small call size (inr four) small = rw four (omega arith)

module _ (rows : List SlotRow) (sizes ranks starts : List ℕ) (long : length sizes ≡ length rows) (dealt : AreDealt rows sizes (length ranks) starts) where
  -- the ranks of a slot are those between two places
  pub ranks_between : (i : ℕ) → i < length rows → get_or (ranks_by_slot rows sizes ranks) i [] ≡ slice_range ranks (get_or starts i 0) (get_or starts (i + 1) 0)
  ranks_between i inside =
      let steps : ℕ = steps_to (row_at rows i).form (get_or sizes i 0) in
      rw (dealt.each i (omega arith), dealt.each (i + 1) (omega arith), steps_more rows sizes i long inside, part_is ranks (steps_before rows sizes i) steps)
      (by_slot_at rows sizes ranks i long inside)

  pub pieces_are : pieces ranks starts ≡ ranks_by_slot rows sizes ranks
  pieces_are =
      let count : length (pieces ranks starts) ≡ length rows = omega (arith, piece_count ranks starts, dealt.one_more) in
      ext_get_or [] (pieces ranks starts) (ranks_by_slot rows sizes ranks) (count ∙ sym (by_slot_length rows sizes ranks long))
      (λ i lt. let inside : i < length rows = omega (arith, count) in
      piece_at ranks starts i (omega (arith, inside, dealt.one_more)) ∙ sym (ranks_between i inside))

  pub dealt_up : (i : ℕ) → i < length rows → get_or starts i 0 ≤ get_or starts (i + 1) 0
  dealt_up i inside = omega (arith, dealt.each i (omega arith), dealt.each (i + 1) (omega arith), steps_more rows sizes i long inside)

  pub dealt_inside : (i : ℕ) → i ≤ length rows → get_or starts i 0 ≤ length ranks
  dealt_inside i inside = omega (arith, dealt.each i inside)

  pub dealt_cuts : ((i : ℕ) → i < length rows → CanHaveSize (row_at rows i).form (get_or sizes i 0)) → ((i : ℕ) → i < length rows → get_or sizes i 0 < 2 ^ 32) → AreCuts (length ranks) starts
  dealt_cuts sized small = record {
    up = λ i lt. dealt_up i (omega (arith, dealt.one_more));
    near = λ i lt.
        let inside : i < length rows = omega (arith, dealt.one_more) in
        let steps = steps_small (row_at rows i).form (get_or sizes i 0) (sized i inside) (small i inside) in
        omega (arith, dealt.each i (omega arith), dealt.each (i + 1) (omega arith), steps_more rows sizes i long inside, steps);
    inside = λ i lt. dealt_inside i (omega (arith, dealt.one_more));
  }

-- what is tested of the ranks between two places is what is asked of the slot
module _ (slots : List Slot) (sizes ranks starts : List ℕ) (long : length sizes ≡ length (rows_of slots)) (dealt : AreDealt (rows_of slots) sizes (length ranks) starts) (i : ℕ) (inside : i < length slots) where
  abbrev own : List ℕ
  own = slice_range ranks (get_or starts i 0) (get_or starts (i + 1) 0)

  abbrev IsTested : Type 0
  IsTested = (length own ≡ steps_to (form_of (get_or slots i no_slot).kind) (get_or sizes i 0)) × IsNonDecreasing own

  same : get_or (ranks_by_slot (rows_of slots) sizes ranks) i [] ≡ own
  same = ranks_between (rows_of slots) sizes ranks starts long dealt i (omega (arith, count_rows slots))

  form : (row_at (rows_of slots) i).form ≡ form_of (get_or slots i no_slot).kind
  form = ap (λ (row : SlotRow). row.form) (row_is slots i inside)

  pub has_from : (r : Bool) → r ≡ true → IsTrue r ↔ IsTested → HasItsRanks (rows_of slots) sizes ranks i
  has_from r is means =
      let tested = means.0 is in
      record {
        there = ap (λ (xs : List ℕ). length xs) same ∙ tested.0 ∙ ap (λ (f : SlotForm). steps_to f (get_or sizes i 0)) (sym form);
        rising = subst IsNonDecreasing (sym same) tested.1;
      }

  pub has_not_from : (r : Bool) → r ≡ false → IsTrue r ↔ IsTested → ¬ HasItsRanks (rows_of slots) sizes ranks i
  has_not_from r not means has =
      let there : length own ≡ steps_to (form_of (get_or slots i no_slot).kind) (get_or sizes i 0) = ap (λ (xs : List ℕ). length xs) (sym same) ∙ has.there ∙ ap (λ (f : SlotForm). steps_to f (get_or sizes i 0)) form in
      let is : r ≡ true = means.1 (there, subst IsNonDecreasing same has.rising) in
      absurd (true≢false (sym is ∙ not))
