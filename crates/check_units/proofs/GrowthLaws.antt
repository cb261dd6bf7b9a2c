-- Slots that grow by the steps of lower rank.
use Rattle.std.proofs.Common.{◌≡◌, ◌≤◌, ◌<◌, ◌+◌, ◌-◌, inl, inr, ℕ, zero, suc, Bool, cond, eqb, ltb, List, [], ◌∷◌, length, get_or, take, set, sym, ap, ◌∙◌, refl, subst, arith}
use Rattle.std.specs.Prelude.{count_by}
use Rattle.std.specs.List.Sorted.{IsNonDecreasingBy}
use Rattle.std.proofs.lemmas.Bool.{cases_lt, cases_eq, lt-ltb, le-ltb, eq-eqb, ne_eqb}
use Rattle.std.proofs.lemmas.List.{length-set, get_or-set_same, get_or-set_other, get_or_default, length-map, get_or-map, ext_get_or}
use Rattle.std.proofs.lemmas.List.Sums.{sum_by-cons, sum_by-set, count_by_more_yes, count_by_more_no}
use Rattle.std.proofs.lemmas.List.Sorted.{All-permutation, Contains-permutation, sum_by-IsPermutation}
use Rattle.leb_codec.specs.Layout.{SlotForm, uleb, call, SlotRow, row_at, size_after, sizes_below}
use Rattle.slot_layout.specs.declared.slots.Slot.{Slot}
use Rattle.slot_layout.specs.Rows.{rows_of}
use Rattle.slot_layout.specs.inside.Rounds.{smallest_of}
use Rattle.slot_layout.proofs.RankLaws.{length_below, below_at}
use Rattle.check_units.specs.declared.steps.Step.{Step}
use Rattle.check_units.specs.inside.Checks.{IsFirstWithout}
use Rattle.check_units.specs.inside.Dealing.{steps_of, step_at, AreInOrder}
use Rattle.check_units.specs.inside.Sums.{numbers_of, AreSums}
use Rattle.check_units.specs.inside.Growing.{AreSteps, HasTaken, IsNeeded, IsNeededUnder, IsSlotNeeded, IsJudged, AreJudged}
use Rattle.check_units.proofs.BuildLaws.{sum_smallest}
use Rattle.check_units.proofs.StepLaws.{IsStepOf, step_of, has_step, is_low, count_low}

abbrev no_step : Step
no_step = record { rank = 0; slot = 0; number = 0 }

-- ---- one step more

-- what a step adds
abbrev pub growth : SlotForm → ℕ
growth form = size_after form 1 - size_after form 0

growth_few : (form : SlotForm) → growth form ≤ 2
growth_few uleb = omega arith
growth_few call = omega arith

grown : (form : SlotForm) (k : ℕ) → size_after form (k + 1) ≡ size_after form k + growth form
grown uleb k = omega arith
grown call k = omega arith

abbrev is_of : ℕ → Step → Bool
is_of i step = eqb step.slot i

module _ (rows : List SlotRow) (steps : List Step) (taken : ℕ) (old : List ℕ) (has : HasTaken rows steps taken old) (inside : taken < length steps) (here : (step_at steps taken).slot < length rows) where
  abbrev slot : ℕ
  slot = (step_at steps taken).slot

  abbrev more : ℕ
  more = growth (row_at rows slot).form

  pub take_next : (new : List ℕ) → AreSums new → numbers_of new ≡ set (numbers_of old) slot (get_or (numbers_of old) slot 0 + more) → HasTaken rows steps (taken + 1) new
  take_next new sums is =
      let numbers : List ℕ = numbers_of old in
      let value : ℕ = get_or numbers slot 0 + more in
      let total = sum_by-set (λ s. s) numbers slot value 0 (omega (arith, has.long, here)) in
      record {
        sums = sums;
        long = ap (λ (xs : List ℕ). length xs) is ∙ length-set numbers slot value ∙ has.long;
        sizes = λ i lt. rw is (elim (cases_eq i slot) [
          | inl same ↦
              let set_is : get_or (set numbers slot value) i 0 ≡ value = rw same (get_or-set_same numbers slot value 0 (omega (arith, has.long, here))) in
              let counted : count_by (is_of i) (take (taken + 1) steps) ≡ count_by (is_of i) (take taken steps) + 1 = count_by_more_yes (is_of i) steps taken no_step inside (eq-eqb slot i (sym same)) in
              let was : get_or numbers slot 0 ≡ size_after (row_at rows i).form (count_by (is_of i) (take taken steps)) = rw (sym same) (has.sizes i lt) in
              let form : more ≡ growth (row_at rows i).form = ap (λ (k : ℕ). growth (row_at rows k).form) (sym same) in
              let next = grown (row_at rows i).form (count_by (is_of i) (take taken steps)) in
              rw counted (omega (arith, set_is, was, form, next))
          | inr other ↦
              let set_is = get_or-set_other numbers slot i value 0 other in
              let counted : count_by (is_of i) (take (taken + 1) steps) ≡ count_by (is_of i) (take taken steps) = count_by_more_no (is_of i) steps taken no_step inside (ne_eqb slot i (λ e. other (sym e))) in
              rw counted (set_is ∙ has.sizes i lt)
        ]);
        few = rw is (omega (arith, total, has.few, growth_few (row_at rows slot).form));
      }

-- no step is taken yet
pub none_taken : (slots : List Slot) (steps : List Step) (cells : List ℕ) → AreSums cells → numbers_of cells ≡ smallest_of (rows_of slots) → HasTaken (rows_of slots) steps 0 cells
none_taken slots steps cells sums is =
    let rows = rows_of slots in
    record {
      sums = sums;
      long = ap (λ (xs : List ℕ). length xs) is ∙ length-map rows (λ (row : SlotRow). size_after row.form 0);
      sizes = λ i lt. rw is (get_or-map (λ (row : SlotRow). size_after row.form 0) rows i (row_at [] 0) 0 lt);
      few = rw is (omega (arith, sum_smallest rows));
    }

-- ---- the steps of lower rank

-- no step is low where all have at least this rank
none_low : (i t : ℕ) (steps : List Step) → ((p : ℕ) → p < length steps → t ≤ (step_at steps p).rank) → count_by (is_low i t) steps ≡ 0
none_low i t [] high = refl
none_low i t (step ∷ steps) high =
    let first : cond {A = ℕ} (is_low i t step) 1 0 ≡ 0 = rw (le-ltb step.rank t (high 0 (omega arith))) refl in
    omega (arith, sum_by-cons (λ s. cond {A = ℕ} (is_low i t s) 1 0) step steps, first, none_low i t steps (λ p lt. high (suc p) (omega arith)))

-- where the first so many have a lower rank, and the others none, those of a slot among them are its low ones
pub front_low : (i t a : ℕ) (steps : List Step) → ((p : ℕ) → p < a → p < length steps → (step_at steps p).rank < t) → ((p : ℕ) → a ≤ p → p < length steps → t ≤ (step_at steps p).rank) → count_by (is_low i t) steps ≡ count_by (is_of i) (take a steps)
front_low i t zero steps low high = none_low i t steps (λ p lt. high p (omega arith) lt)
front_low i t (suc a) [] low high = refl
front_low i t (suc a) (step ∷ steps) low high =
    let first : cond {A = ℕ} (is_low i t step) 1 0 ≡ cond {A = ℕ} (is_of i step) 1 0 = rw (lt-ltb step.rank t (low 0 (omega arith) (omega arith))) refl in
    let rest = front_low i t a steps (λ p less lt. low (suc p) (omega arith) (omega arith)) (λ p more lt. high (suc p) (omega arith) (omega arith)) in
    omega (arith, sum_by-cons (λ s. cond {A = ℕ} (is_low i t s) 1 0) step steps, sum_by-cons (λ s. cond {A = ℕ} (is_of i s) 1 0) step (take a steps), first, rest)

module _ (rows : List SlotRow) (lists : List (List ℕ)) (steps : List Step) (count : length lists ≡ length rows) (order : AreInOrder lists steps) where
  -- the sums are those of the sizes that the steps of lower rank lead to
  pub taken_below : (t a : ℕ) (cells : List ℕ) → HasTaken rows steps a cells → ((p : ℕ) → p < a → p < length steps → (step_at steps p).rank < t) → ((p : ℕ) → a ≤ p → p < length steps → t ≤ (step_at steps p).rank) → numbers_of cells ≡ sizes_below t rows lists
  taken_below t a cells has low high =
      ext_get_or 0 (numbers_of cells) (sizes_below t rows lists) (has.long ∙ sym (length_below t rows lists count))
      (λ i lt.
      let inside : i < length rows = omega (arith, has.long, lt) in
      let moved : count_by (is_low i t) steps ≡ count_by (is_low i t) (steps_of 0 lists) = sum_by-IsPermutation (λ s. cond {A = ℕ} (is_low i t s) 1 0) (steps_of 0 lists) steps order.moved in
      let zero_i : 0 + i ≡ i = omega arith in
      let own : count_by (is_low i t) (steps_of 0 lists) ≡ count_by (λ rank. ltb rank t) (get_or lists i []) = let h = rw zero_i at (count_low 0 i t lists (omega (arith, inside, count))) in h in
      let same : count_by (is_of i) (take a steps) ≡ count_by (λ rank. ltb rank t) (get_or lists i []) = sym (front_low i t a steps low high) ∙ moved ∙ own in
      has.sizes i inside ∙ ap (size_after (row_at rows i).form) same ∙ sym (below_at t rows lists i count inside))

  -- each step is one of its slot
  pub each_step : (p : ℕ) → p < length steps → IsStepOf 0 lists (step_at steps p)
  each_step p lt = All-permutation (IsStepOf 0 lists) (steps_of 0 lists) steps order.moved (step_of 0 lists) p no_step lt

  -- each step of a slot is among them
  pub each_found : (i k : ℕ) → i < length lists → k < length (get_or lists i []) → (p : ℕ) × (p < length steps) × (step_at steps p ≡ record { rank = get_or (get_or lists i []) k 0; slot = i; number = k })
  each_found i k inside lt =
      let step : Step = record { rank = get_or (get_or lists i []) k 0; slot = i; number = k } in
      let zero_i : 0 + i ≡ i = omega arith in
      let has = rw zero_i at (has_step 0 i k lists inside lt) in
      let found = Contains-permutation (steps_of 0 lists) steps step order.moved has in
      (found.0, found.1, get_or_default steps found.0 no_step step found.1 ∙ found.2)

  pub steps_are : AreSteps (length rows) steps
  steps_are = record {
    slots = λ p lt. omega (arith, (each_step p lt).there, count);
    rising = order.rising;
  }

  -- what has been judged of all steps is so of all slots
  pub judged_all : (first : ℕ) → first ≤ length rows → AreJudged rows lists steps (length steps) first → IsFirstWithout (IsSlotNeeded rows lists) (length rows) first
  judged_all first within judged = record {
    within = within;
    before = λ i less k lt.
        let found = each_found i k (omega (arith, count)) lt in
        let step : Step = record { rank = get_or (get_or lists i []) k 0; slot = i; number = k } in
        let slot_is : (step_at steps found.0).slot ≡ i = ap (λ (s : Step). s.slot) found.2 in
        subst (IsNeeded rows lists) found.2 (judged.good found.0 found.1 (omega (arith, slot_is, less)));
    fails = λ less needed.
        let bad = judged.bad less in
        let is = each_step bad.0 bad.1 in
        let step : Step = step_at steps bad.0 in
        let e : step.slot - 0 ≡ first = omega (arith, bad.2) in
        let inside : step.number < length (get_or lists first []) = let h = rw e at is.inside in h in
        let rank_is : step.rank ≡ get_or (get_or lists first []) step.number 0 = let h = rw e at is.rank_is in h in
        let here = needed step.number inside in
        bad.3 (rw (bad.2, rank_is) here);
  }

-- ---- a look at one step more

module _ (rows : List SlotRow) (steps : List Step) (rising : IsNonDecreasingBy (λ (step : Step). step.rank) steps) (now taken next : ℕ) (inside : now < length steps) where
  abbrev IsLow : ℕ → Type 0
  IsLow p = (step_at steps p).rank < (step_at steps now).rank

  module _ (low : (p q : ℕ) → p < taken → now ≤ q → q < length steps → (step_at steps p).rank < (step_at steps q).rank) (below : (p : ℕ) → taken ≤ p → p < next → IsLow p) where
    low_now : (p : ℕ) → p < next → IsLow p
    low_now p less =
        elim (cases_lt p taken) [
          | inl early ↦ low p now early (omega arith) inside
          | inr late ↦ below p late less
        ]

    -- those that are taken have a lower rank than all steps behind
    pub low_next : (p q : ℕ) → p < next → now + 1 ≤ q → q < length steps → (step_at steps p).rank < (step_at steps q).rank
    low_next p q less up lt =
        let rises = rising now q no_step (omega arith) lt in
        omega (arith, low_now p less, rises)

    module _ (stop : next < length steps → (step_at steps now).rank ≤ (step_at steps next).rank) (cells : List ℕ) (has : HasTaken rows steps next cells) (first after : ℕ) (is : IsJudged rows (numbers_of cells) (step_at steps now) first after) where
      high_now : (p : ℕ) → next ≤ p → p < length steps → (step_at steps now).rank ≤ (step_at steps p).rank
      high_now p up lt =
          let rises = rising next p no_step up lt in
          omega (arith, rises, stop (omega arith))

      pub judged_next : (lists : List (List ℕ)) → length lists ≡ length rows → AreInOrder lists steps → AreJudged rows lists steps now first → AreJudged rows lists steps (now + 1) after
      judged_next lists count order judged =
          let step : Step = step_at steps now in
          let sizes : numbers_of cells ≡ sizes_below step.rank rows lists = taken_below rows lists steps count order step.rank next cells has (λ p less lt. low_now p less) high_now in
          record {
            good = λ p lt less. elim (cases_eq p now) [
              | inl same ↦
                  let here : step.slot < after = rw (sym same) less in
                  let needed : IsNeeded rows lists step = subst (λ (s : List ℕ). IsNeededUnder rows s step) sizes (is.good here) in
                  rw same needed
              | inr other ↦ judged.good p (omega (arith, lt, other)) (omega (arith, less, is.no_higher))
            ];
            bad = λ less. elim is.bad [
              | inl same ↦
                  let bad = judged.bad (omega (arith, less, same)) in
                  (bad.0, omega (arith, bad.1), bad.2 ∙ sym same, bad.3)
              | inr (here, fails) ↦
                  (now, omega arith, sym here, λ needed. fails (subst (λ (s : List ℕ). IsNeededUnder rows s step) (sym sizes) needed))
            ];
          }
