-- A round on its way.
use Rattle.std.proofs.Common.{◌≡◌, ◌≤◌, ◌<◌, ◌+◌, ◌-◌, ◌^◌, inl, inr, ℕ, Bool, true, false, List, [], length, get_or, take, sum, set, ap, ◌∙◌, refl, arith}
use Rattle.std.proofs.lemmas.Bool.{cases_lt}
use Rattle.std.proofs.lemmas.List.{length-map, get_or-map, length-set, get_or-set_same, get_or-set_other, get_or_default, take-take}
use Rattle.std.proofs.lemmas.List.Sums.{sum_by-set, sum_by-take-le}
use Rattle.leb_codec.specs.Layout.{SlotRow, row_at, slot_number, need, steps_to}
use Rattle.slot_layout.specs.declared.slots.Slot.{Slot}
use Rattle.slot_layout.specs.declared.slots.SlotKind.TheVariants.{Uleb}
use Rattle.slot_layout.specs.Rows.{form_of, row_of, rows_of}
use Rattle.slot_layout.specs.inside.Rounds.{AreSlots, AreStarts, AreRaised, raised_size, AreNoted, NotesSlot}
use Rattle.slot_layout.proofs.SumLaws.{sum_range}

abbrev pub no_slot : Slot
no_slot = record { kind = Uleb; fixed = 0; from = 0; to = 0 }

pub row_is : (slots : List Slot) (i : ℕ) → i < length slots → row_at (rows_of slots) i ≡ row_of (get_or slots i no_slot)
row_is slots i inside = get_or-map row_of slots i no_slot (row_at [] 0) inside

pub count_rows : (slots : List Slot) → length (rows_of slots) ≡ length slots
count_rows slots = length-map slots row_of

pub slot_from : (slots : List Slot) → AreSlots (rows_of slots) → (i : ℕ) → i < length slots → (get_or slots i no_slot).from ≤ (get_or slots i no_slot).to
slot_from slots are i inside =
    let h = (are.inside i (omega (arith, count_rows slots))).0 in rw (row_is slots i inside) at h

pub slot_to : (slots : List Slot) → AreSlots (rows_of slots) → (i : ℕ) → i < length slots → (get_or slots i no_slot).to ≤ length slots
slot_to slots are i inside =
    let h = (are.inside i (omega (arith, count_rows slots))).1 in
    let k = rw (row_is slots i inside) at h in
    omega (arith, k, count_rows slots)

pub slot_fixed : (slots : List Slot) → AreSlots (rows_of slots) → (i : ℕ) → i < length slots → (get_or slots i no_slot).fixed < 2 ^ 31
slot_fixed slots are i inside =
    let h = are.small i (omega (arith, count_rows slots)) in rw (row_is slots i inside) at h

pub starts_rise : (sizes starts : List ℕ) → AreStarts sizes starts → (from to : ℕ) → from ≤ to → to ≤ length sizes → get_or starts from 0 ≤ get_or starts to 0
starts_rise sizes starts are from to up inside =
    let front : take from (take to sizes) ≡ take from sizes = take-take from to sizes up in
    let less = sum_by-take-le (λ s. s) (take to sizes) from in
    let less' = rw front at less in
    omega (arith, are.each from (omega arith), are.each to inside, less')

-- what a slot needs, as it is computed
pub needed : (slots : List Slot) → AreSlots (rows_of slots) → (sizes starts : List ℕ) → AreStarts sizes starts → length sizes ≡ length slots → (i : ℕ) → i < length slots → (number bytes : ℕ) → number ≡ (get_or slots i no_slot).fixed + (get_or starts (get_or slots i no_slot).to 0 - get_or starts (get_or slots i no_slot).from 0) → bytes ≡ need (form_of (get_or slots i no_slot).kind) number → bytes ≡ need (row_at (rows_of slots) i).form (slot_number sizes (row_at (rows_of slots) i))
needed slots are sizes starts are_starts long i inside number bytes is_number is_bytes =
    let slot : Slot = get_or slots i no_slot in
    let up : slot.from ≤ slot.to = slot_from slots are i inside in
    let within : slot.to ≤ length sizes = omega (arith, slot_to slots are i inside) in
    let range = sum_range sizes slot.from slot.to up in
    let same : number ≡ slot_number sizes (row_of slot) = omega (arith, is_number, range, are_starts.each slot.from (omega arith), are_starts.each slot.to within) in
    rw (row_is slots i inside) (is_bytes ∙ ap (need (form_of slot.kind)) same)

-- the slots below i have had their turn
pub record IsHalfway (rows : List SlotRow) (rank : ℕ) (old : List ℕ) (old_ranks : List (List ℕ)) (i : ℕ) (sizes : List ℕ) (ranks : List (List ℕ)) (is_raised : Bool) : Type 0 where
  pub long : length sizes ≡ length old
  pub ranks_long : length ranks ≡ length old_ranks
  pub raised : (j : ℕ) → j < i → get_or sizes j 0 ≡ raised_size rows old j
  pub todo : (j : ℕ) → i ≤ j → get_or sizes j 0 ≡ get_or old j 0
  pub noted : (j : ℕ) → j < i → NotesSlot rows old sizes rank old_ranks ranks j
  pub kept : (j : ℕ) → i ≤ j → get_or ranks j [] ≡ get_or old_ranks j []
  pub grows : sum old ≤ sum sizes
  pub more : is_raised ≡ true → sum old < sum sizes
  pub same : is_raised ≡ false → sizes ≡ old

module _ (rows : List SlotRow) (rank : ℕ) (old : List ℕ) (old_ranks : List (List ℕ)) where
  pub halfway_none : IsHalfway rows rank old old_ranks 0 old old_ranks false
  halfway_none = record {
    long = refl;
    ranks_long = refl;
    raised = λ j l. absurd (omega arith);
    todo = λ j l. refl;
    noted = λ j l. absurd (omega arith);
    kept = λ j l. refl;
    grows = omega arith;
    more = λ e. cc;
    same = λ e. refl;
  }

  -- a slot that needs no more
  pub halfway_keep : (i : ℕ) (sizes : List ℕ) (ranks : List (List ℕ)) (is_raised : Bool) → IsHalfway rows rank old old_ranks i sizes ranks is_raised → need (row_at rows i).form (slot_number old (row_at rows i)) ≤ get_or sizes i 0 → IsHalfway rows rank old old_ranks (i + 1) sizes ranks is_raised
  halfway_keep i sizes ranks is_raised is enough =
      let here : get_or sizes i 0 ≡ get_or old i 0 = is.todo i (omega arith) in
      record {
        long = is.long;
        ranks_long = is.ranks_long;
        raised = λ j l. elim (cases_lt j i) [
          | inl before ↦ is.raised j before
          | inr same ↦ let e : j ≡ i = omega arith in rw e (omega (arith, here, enough))
        ];
        todo = λ j l. is.todo j (omega arith);
        noted = λ j l. elim (cases_lt j i) [
          | inl before ↦ is.noted j before
          | inr same ↦ let e : j ≡ i = omega arith in rw (e, here, is.kept i (omega arith)) (record { same_length = refl; before = λ k m. refl; since = λ k m n. absurd (omega arith) })
        ];
        kept = λ j l. is.kept j (omega arith);
        grows = is.grows;
        more = is.more;
        same = is.same;
      }

  -- a slot that is raised
  pub halfway_raise : (i : ℕ) (sizes : List ℕ) (ranks : List (List ℕ)) (is_raised : Bool) (bytes from to : ℕ) (none noted : List ℕ) → IsHalfway rows rank old old_ranks i sizes ranks is_raised → i < length old → i < length old_ranks → bytes ≡ need (row_at rows i).form (slot_number old (row_at rows i)) → get_or sizes i 0 < bytes → from ≡ steps_to (row_at rows i).form (get_or sizes i 0) → to ≡ steps_to (row_at rows i).form bytes → AreNoted from to rank (get_or ranks i none) noted → IsHalfway rows rank old old_ranks (i + 1) (set sizes i bytes) (set ranks i noted) true
  halfway_raise i sizes ranks is_raised bytes from to none noted is inside ranks_inside is_bytes less is_from is_to are_there =
      let here : get_or sizes i 0 ≡ get_or old i 0 = is.todo i (omega arith) in
      let within : i < length sizes = omega (arith, is.long) in
      let ranks_within : i < length ranks = omega (arith, is.ranks_long) in
      let are : AreNoted from to rank (get_or ranks i []) noted = rw (get_or_default ranks i none [] ranks_within) at are_there in
      let sum_more = sum_by-set (λ s. s) sizes i bytes 0 within in
      record {
        long = length-set sizes i bytes ∙ is.long;
        ranks_long = length-set ranks i noted ∙ is.ranks_long;
        raised = λ j l. elim (cases_lt j i) [
          | inl before ↦ get_or-set_other sizes i j bytes 0 (λ e. absurd (omega arith)) ∙ is.raised j before
          | inr same ↦ let e : j ≡ i = omega arith in rw (e, get_or-set_same sizes i bytes 0 within) (omega (arith, here, is_bytes, less))
        ];
        todo = λ j l. get_or-set_other sizes i j bytes 0 (λ e. absurd (omega arith)) ∙ is.todo j (omega arith);
        noted = λ j l. elim (cases_lt j i) [
          | inl before ↦ rw (get_or-set_other sizes i j bytes 0 (λ e. absurd (omega arith)), get_or-set_other ranks i j noted [] (λ e. absurd (omega arith))) (is.noted j before)
          | inr same ↦ let e : j ≡ i = omega arith in rw (e, get_or-set_same sizes i bytes 0 within, get_or-set_same ranks i noted [] ranks_within, ← here, ← is.kept i (omega arith), ← is_from, ← is_to) are
        ];
        kept = λ j l. get_or-set_other ranks i j noted [] (λ e. absurd (omega arith)) ∙ is.kept j (omega arith);
        grows = omega (arith, sum_more, less, is.grows);
        more = λ e. omega (arith, sum_more, less, is.grows);
        same = λ e. cc;
      }

  pub halfway_all : (sizes : List ℕ) (ranks : List (List ℕ)) (is_raised : Bool) (n : ℕ) → IsHalfway rows rank old old_ranks n sizes ranks is_raised → length old ≡ n → AreRaised rows old sizes
  halfway_all sizes ranks is_raised n is long = record {
    same_length = is.long;
    each = λ i l. is.raised i (omega arith);
  }
