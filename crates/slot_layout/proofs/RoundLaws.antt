-- The sizes after each round.
use Rattle.std.proofs.Common.{◌≡◌, ◌≤◌, ◌<◌, ◌^◌, inl, inr, ℕ, zero, suc, max, map, List, [], ◌∷◌, length, get_or, sym, ap, ◌∙◌, refl, arith}
use Rattle.std.proofs.lemmas.Bool.{cases_lt}
use Rattle.std.proofs.lemmas.List.{ext_get_or, length-map, get_or-map}
use Rattle.leb_codec.specs.LebLaws.{UnsignedLens}
use Rattle.leb_codec.specs.Layout.{SlotForm, SlotRow, row_at, slot_number, need, IsSlotSize, IsSlotNumber, IsLayout, IsLeastLayout, size_after, uleb, call}
use Rattle.slot_layout.specs.Rows.{IsTight}
use Rattle.slot_layout.specs.inside.Rounds.{AreSlots, AreSmall, AreRaised, raised_size, smallest_of}
use Rattle.slot_layout.proofs.SumLaws.{sum_rises}
use Rattle.slot_layout.proofs.SizeLaws.{smallest_sized, smallest_least, smallest_few, need_rises, need_few, grown_sized, need_sized, number_small, number_rises}

-- a round, over sizes that stand for the rows' numbers
abbrev pub raised_from : List ℕ → List SlotRow → List ℕ → List ℕ
raised_from all (row ∷ rows) (size ∷ sizes) = max size (need row.form (slot_number all row)) ∷ raised_from all rows sizes
raised_from all _ _ = []

-- the sizes after so many rounds
abbrev pub rounds : List SlotRow → ℕ → List ℕ
rounds rows zero = smallest_of rows
rounds rows (suc t) = raised_from (rounds rows t) rows (rounds rows t)

length_raised : (all : List ℕ) (rows : List SlotRow) (sizes : List ℕ) → length sizes ≡ length rows → length (raised_from all rows sizes) ≡ length rows
length_raised all [] sizes long = refl
length_raised all (row ∷ rows) [] long = absurd (omega arith)
length_raised all (row ∷ rows) (size ∷ sizes) long = ap suc (length_raised all rows sizes (omega arith))

raised_at : (all : List ℕ) (rows : List SlotRow) (sizes : List ℕ) (i : ℕ) → length sizes ≡ length rows → i < length rows → get_or (raised_from all rows sizes) i 0 ≡ max (get_or sizes i 0) (need (row_at rows i).form (slot_number all (row_at rows i)))
raised_at all [] sizes i long inside = absurd (omega arith)
raised_at all (row ∷ rows) [] i long inside = absurd (omega arith)
raised_at all (row ∷ rows) (size ∷ sizes) zero long inside = refl
raised_at all (row ∷ rows) (size ∷ sizes) (suc i) long inside = raised_at all rows sizes i (omega arith) (omega arith)

pub rounds_length : (rows : List SlotRow) (t : ℕ) → length (rounds rows t) ≡ length rows
rounds_length rows zero = length-map rows (λ row. size_after row.form 0)
rounds_length rows (suc t) = length_raised (rounds rows t) rows (rounds rows t) (rounds_length rows t)

pub rounds_next : (rows : List SlotRow) (t i : ℕ) → i < length rows → get_or (rounds rows (suc t)) i 0 ≡ raised_size rows (rounds rows t) i
rounds_next rows t i inside = raised_at (rounds rows t) rows (rounds rows t) i (rounds_length rows t) inside

pub rounds_start : (rows : List SlotRow) (i : ℕ) → i < length rows → get_or (rounds rows 0) i 0 ≡ size_after (row_at rows i).form 0
rounds_start rows i inside = get_or-map (λ row. size_after row.form 0) rows i (row_at [] 0) 0 inside

-- a round leads to the next sizes
pub raised_is : (rows : List SlotRow) (t : ℕ) (new : List ℕ) → AreRaised rows (rounds rows t) new → new ≡ rounds rows (suc t)
raised_is rows t new raised =
    let long : length (rounds rows t) ≡ length rows = rounds_length rows t in
    ext_get_or 0 new (rounds rows (suc t)) (raised.same_length ∙ long ∙ sym (rounds_length rows (suc t)))
    (λ i l. let inside : i < length rows = omega (arith, raised.same_length, long) in
    raised.each i (omega (arith, long)) ∙ sym (rounds_next rows t i inside))

rounds_step : (rows : List SlotRow) (t i : ℕ) → i < length rows → get_or (rounds rows t) i 0 ≤ get_or (rounds rows (suc t)) i 0
rounds_step rows t i inside = omega (arith, rounds_next rows t i inside)

-- sizes never fall
pub rounds_rise : (rows : List SlotRow) (t u i : ℕ) → t ≤ u → i < length rows → get_or (rounds rows t) i 0 ≤ get_or (rounds rows u) i 0
rounds_rise rows zero zero i up inside = omega arith
rounds_rise rows (suc t) zero i up inside = absurd (omega arith)
rounds_rise rows t (suc u) i up inside =
    elim (cases_lt t (suc u)) [
      | inl before ↦ omega (arith, rounds_rise rows t u i (omega arith) inside, rounds_step rows u i inside)
      | inr same ↦ let e : t ≡ suc u = omega arith in rw e (omega arith)
    ]

module _ (laws : UnsignedLens) (rows : List SlotRow) (are : AreSlots rows) where
  module _ (sizes : List ℕ) (small : AreSmall sizes) (long : length sizes ≡ length rows) where
    pub number_below : (i : ℕ) → i < length rows → slot_number sizes (row_at rows i) < 2 ^ 32
    number_below i inside = number_small sizes (row_at rows i) small (are.small i inside)

    pub need_below_five : (i : ℕ) → i < length rows → need (row_at rows i).form (slot_number sizes (row_at rows i)) ≤ 5
    need_below_five i inside = need_few laws (row_at rows i).form (slot_number sizes (row_at rows i)) (number_below i inside)

  -- no size passes 5 bytes
  pub rounds_small : (t : ℕ) → AreSmall (rounds rows t)
  rounds_small zero = record {
    few = omega (arith, rounds_length rows 0, are.few);
    some = λ i l. let inside : i < length rows = omega (arith, rounds_length rows 0) in omega (arith, rounds_start rows i inside, first_some (row_at rows i).form);
    each = λ i l. let inside : i < length rows = omega (arith, rounds_length rows 0) in omega (arith, rounds_start rows i inside, smallest_few (row_at rows i).form);
  }
    where
      first_some : (form : SlotForm) → 1 ≤ size_after form 0
      first_some uleb = omega arith
      first_some call = omega arith
  rounds_small (suc t) =
      let before = rounds_small t in
      let long : length (rounds rows t) ≡ length rows = rounds_length rows t in
      record {
        few = omega (arith, rounds_length rows (suc t), are.few);
        some = λ i l. let inside : i < length rows = omega (arith, rounds_length rows (suc t)) in omega (arith, rounds_next rows t i inside, before.some i (omega (arith, long)));
        each = λ i l. let inside : i < length rows = omega (arith, rounds_length rows (suc t)) in omega (arith, rounds_next rows t i inside, before.each i (omega (arith, long)), need_below_five (rounds rows t) before long i inside);
      }

  -- each size is one that its slot may have
  pub rounds_sized : (t i : ℕ) → i < length rows → IsSlotSize (row_at rows i).form (get_or (rounds rows t) i 0)
  rounds_sized zero i inside = rw (rounds_start rows i inside) (smallest_sized (row_at rows i).form)
  rounds_sized (suc t) i inside =
      rw (rounds_next rows t i inside)
      (grown_sized laws (row_at rows i).form (get_or (rounds rows t) i 0) (slot_number (rounds rows t) (row_at rows i)) (rounds_sized t i inside) (number_below (rounds rows t) (rounds_small t) (rounds_length rows t) i inside))

  -- no round passes a member of the class
  pub rounds_lowest : (t : ℕ) (other : List ℕ) → IsLayout rows other → (i : ℕ) → i < length rows → get_or (rounds rows t) i 0 ≤ get_or other i 0
  rounds_lowest zero other member i inside = omega (arith, rounds_start rows i inside, smallest_least (row_at rows i).form (get_or other i 0) (member.sized i inside))
  rounds_lowest (suc t) other member i inside =
      let number = number_rises (rounds rows t) other (row_at rows i) (rounds_length rows t ∙ sym member.same_length) (λ j l. rounds_lowest t other member j (omega (arith, rounds_length rows t))) in
      let needs = need_rises laws (row_at rows i).form (slot_number (rounds rows t) (row_at rows i)) (slot_number other (row_at rows i)) number in
      omega (arith, rounds_next rows t i inside, rounds_lowest t other member i inside, needs, (member.holds i inside).enough)

  -- where a round changes nothing
  module _ (t : ℕ) (still : rounds rows (suc t) ≡ rounds rows t) where
    -- each number is below 2^32, and so one that its slot can hold
    below : (i : ℕ) → i < length rows → slot_number (rounds rows t) (row_at rows i) < 2 ^ 32
    below = number_below (rounds rows t) (rounds_small t) (rounds_length rows t)

    narrow_form : (form : SlotForm) (v : ℕ) → v < 2 ^ 32 → IsSlotNumber form v
    narrow_form uleb v small = tt
    narrow_form call v small = small

    pub still_member : IsLayout rows (rounds rows t)
    still_member = record {
      same_length = rounds_length rows t;
      sized = rounds_sized t;
      holds = λ i inside. record {
        enough = omega (arith, rounds_next rows t i inside, ap (λ sizes. get_or sizes i 0) still);
        narrow = narrow_form (row_at rows i).form (slot_number (rounds rows t) (row_at rows i)) (below i inside);
      };
    }

    pub still_least : IsLeastLayout rows (rounds rows t)
    still_least = record {
      member = still_member;
      least = λ other member. sum_rises (rounds rows t) other (rounds_length rows t ∙ sym member.same_length) (λ i l. rounds_lowest t other member i (omega (arith, rounds_length rows t)));
    }

    -- what the numbers need under the sizes
    abbrev needs : List ℕ
    needs = map (λ row. need row.form (slot_number (rounds rows t) row)) rows

    need_at : (i : ℕ) → i < length rows → get_or needs i 0 ≡ need (row_at rows i).form (slot_number (rounds rows t) (row_at rows i))
    need_at i inside = get_or-map (λ row. need row.form (slot_number (rounds rows t) row)) rows i (row_at [] 0) 0 inside

    count_needs : length needs ≡ length rows
    count_needs = length-map rows (λ row. need row.form (slot_number (rounds rows t) row))

    number_falls : (i : ℕ) → slot_number needs (row_at rows i) ≤ slot_number (rounds rows t) (row_at rows i)
    number_falls i =
        number_rises needs (rounds rows t) (row_at rows i) (count_needs ∙ sym (rounds_length rows t))
        (λ j l. let inside : j < length rows = omega (arith, count_needs) in omega (arith, need_at j inside, (still_member.holds j inside).enough))

    -- it is a layout too, since it is slot by slot at most the sizes
    needs_member : IsLayout rows needs
    needs_member = record {
      same_length = count_needs;
      sized = λ i inside. rw (need_at i inside) (need_sized laws (row_at rows i).form (slot_number (rounds rows t) (row_at rows i)) (below i inside));
      holds = λ i inside. record {
        enough = omega (arith, need_at i inside, need_rises laws (row_at rows i).form (slot_number needs (row_at rows i)) (slot_number (rounds rows t) (row_at rows i)) (number_falls i));
        narrow = narrow_form (row_at rows i).form (slot_number needs (row_at rows i)) (omega (arith, number_falls i, below i inside));
      };
    }

    -- so no size is more than what the slot's number needs
    pub still_tight : IsTight rows (rounds rows t)
    still_tight i inside = omega (arith, rounds_lowest t needs needs_member i inside, need_at i inside, (still_member.holds i inside).enough)
