-- The rows of what may be amiss, by the places where sections are due as they are held.
use Rattle.std.proofs.Common.{◌≡◌, ◌≢◌, ◌≤◌, ◌<◌, ◌+◌, ◌∙◌, inl, inr, ℕ, List, length, refl, sym, ap, subst, arith}
use Rattle.std.specs.Prelude.{Option, None, Some, IsTrue}
use Rattle.std.specs.List.{Contains}
use Rattle.std.proofs.lemmas.Bool.{cases_eq, ne_eqb, eq-eqb}
use Rattle.std.proofs.lemmas.List.{get_or-map, length-map}
use Rattle.elf_sections.specs.Elf.{section_count, sections_at, header_at, offset_of, size_of, is_movable, fixed_end_of}
use Rattle.elf_place.specs.Layout.{IsNextMultiple, IsMovingOrder}
use Rattle.tidy_places.specs.declared.due.Due.{Due}
use Rattle.tidy_places.specs.Firsts.{IsLeastPlace, IsLeastFound, IsFirstIn, IsFirstFoundIn}
use Rattle.tidy_places.specs.Misplaced.{Row, order_of, IsDueAmong, EndsAt, AreHeadersDue, IsSectionElsewhere, IsBetween, layout_end, IsMisplaced}
use Rattle.tidy_places.specs.Misplaced.Row.{OfSection, OfHeaders, OfByte}
use Rattle.tidy_places.specs.inside.Chains.{AreDue, due_at, numbers_of, IsOff, StandDue}
use Rattle.tidy_places.proofs.DueOrders.{order_once}
use Rattle.tidy_places.proofs.DuePlaces.{next_once, due_found, due_stands, ends_stands, ends_once}
use Rattle.tidy_places.proofs.Gaps.{due_within, due_to, due_len, filled_from, filled_to, filled_other, filled_apart, filled_or_behind}
use Rattle.tidy_places.proofs.Strays.{Stray}

-- what holds at the same places has the same least place
pub least_of : (P Q : ℕ → Type 0) (p : ℕ) → ((q : ℕ) → P q → Q q) → ((q : ℕ) → Q q → P q) → IsLeastPlace P p → IsLeastPlace Q p
least_of P Q p to from (here, first) = (to p here, λ q less holds. first q less (from q holds))

pub least_found : (P Q : ℕ → Type 0) (found : Option ℕ) → ((q : ℕ) → P q → Q q) → ((q : ℕ) → Q q → P q) → IsLeastFound P found → IsLeastFound Q found
least_found P Q None to from none = λ q holds. none q (from q holds)
least_found P Q (Some p) to from least = least_of P Q p to from least

-- THE ORDER OF THE ROWS

module _ (Holds : Row → ℕ → Type 0) where
  pub in_first : (p : ℕ) → IsLeastPlace (Holds OfSection) p → IsFirstIn order_of Holds p
  in_first p least = record { row = OfSection; least = least; first = λ earlier q less holds. absurd (omega (arith, less)) }

  module _ (none : (q : ℕ) → Holds OfSection q → ⊥) where
    before_second : (earlier : Row) (q : ℕ) → order_of earlier < 1 → Holds earlier q → ⊥
    before_second OfSection q less holds = none q holds
    before_second OfHeaders q less holds = omega (arith, less)
    before_second OfByte q less holds = omega (arith, less)

    pub in_second : (p : ℕ) → IsLeastPlace (Holds OfHeaders) p → IsFirstIn order_of Holds p
    in_second p least = record { row = OfHeaders; least = least; first = before_second }

    module _ (clear : (q : ℕ) → Holds OfHeaders q → ⊥) where
      before_third : (earlier : Row) (q : ℕ) → order_of earlier < 2 → Holds earlier q → ⊥
      before_third OfSection q less holds = none q holds
      before_third OfHeaders q less holds = clear q holds
      before_third OfByte q less holds = omega (arith, less)

      in_none : ((q : ℕ) → Holds OfByte q → ⊥) → (row : Row) (q : ℕ) → Holds row q → ⊥
      in_none empty OfSection q holds = none q holds
      in_none empty OfHeaders q holds = clear q holds
      in_none empty OfByte q holds = empty q holds

      pub in_third : (found : Option ℕ) → IsLeastFound (Holds OfByte) found → IsFirstFoundIn order_of Holds found
      in_third None empty = in_none empty
      in_third (Some p) least = record { row = OfByte; least = least; first = before_third }

-- SECTIONS AND THEIR HEADERS

module _ (file written : List ℕ) (sections : List Due) (end : ℕ) (due : AreDue written (fixed_end_of file) sections end) (order : IsMovingOrder file (numbers_of sections)) where
  pub off_elsewhere : (p : ℕ) → IsOff written sections p → IsSectionElsewhere file written p
  off_elsewhere p (k, inside, off, place) =
      ((due_at sections k).section, (due_at sections k).at, record { order = numbers_of sections; moving = order; due = due_stands written (fixed_end_of file) sections end due k inside }, off, place)

  pub elsewhere_off : (p : ℕ) → IsSectionElsewhere file written p → IsOff written sections p
  elsewhere_off p (i, at, there, off, place) =
      let e : there.order ≡ numbers_of sections = order_once file there.order (numbers_of sections) there.moving order in
      let found = due_found written (fixed_end_of file) sections end i at due (subst (λ (numbers : List ℕ). IsDueAmong written numbers (fixed_end_of file) i at) e there.due) in
      let same : offset_of written (due_at sections found.0).section ≡ offset_of written i = ap (offset_of written) found.2 in
      (found.0, found.1, (λ stands. off (sym same ∙ stands ∙ found.3)), place ∙ sym same)

  pub stand_due : ((p : ℕ) → IsOff written sections p → ⊥) → StandDue written sections
  stand_due none k inside = elim (cases_eq (offset_of written (due_at sections k).section) (due_at sections k).at) [
    | inl same ↦ same
    | inr other ↦ absurd (none (offset_of written (due_at sections k).section) (k, inside, other, refl))
  ]

  pub headers_due : (at : ℕ) → IsNextMultiple end 8 at → AreHeadersDue file written at
  headers_due at next = record { order = numbers_of sections; moving = order; end = end; ends = ends_stands written (fixed_end_of file) sections end due; next = next }

  pub headers_once : (x y : ℕ) → IsNextMultiple end 8 x → AreHeadersDue file written y → y ≡ x
  headers_once x y next there =
      let e : there.order ≡ numbers_of sections = order_once file there.order (numbers_of sections) there.moving order in
      let same : there.end ≡ end = ends_once written (numbers_of sections) (fixed_end_of file) there.end end (subst (λ (numbers : List ℕ). EndsAt written numbers (fixed_end_of file) there.end) e there.ends) (ends_stands written (fixed_end_of file) sections end due) in
      next_once end 8 y x (subst (λ (n : ℕ). IsNextMultiple n 8 y) same there.next) next

  -- BYTES

  module _ (stand : StandDue written sections) where
    -- the number of a movable section among those that are due
    due_of : (i : ℕ) → i < section_count file → IsTrue (is_movable file i) → (k : ℕ) × (k < length sections) × ((due_at sections k).section ≡ i)
    due_of i inside moves =
        let c = (order.movable i).1 (inside, moves) in
        let none : Due = record { section = 0; at = 0; len = 0 } in
        let few : c.0 < length sections = subst (λ (n : ℕ). c.0 < n) (length-map sections (λ (due : Due). due.section)) c.1 in
        (c.0, few, sym (get_or-map (λ (due : Due). due.section) sections c.0 none i few) ∙ c.2)

    -- no section has a byte that none of these has
    apart_between : (p : ℕ) → ((k : ℕ) → k < length sections → (due_at sections k).at ≤ p → p < (due_at sections k).at + (due_at sections k).len → ⊥) → IsBetween file written p
    apart_between p apart = λ i inside moves low high.
        let k = due_of i inside moves in
        let at : (due_at sections k.0).at ≡ offset_of written i = sym (stand k.0 k.1) ∙ ap (offset_of written) k.2 in
        let len : (due_at sections k.0).len ≡ size_of written i = due_len written (fixed_end_of file) sections end due k.0 k.1 ∙ ap (size_of written) k.2 in
        apart k.0 k.1 (omega (arith, at, low)) (omega (arith, at, len, high))

    between_apart : (p : ℕ) → IsBetween file written p → (k : ℕ) → k < length sections → (due_at sections k).at ≤ p → p < (due_at sections k).at + (due_at sections k).len → ⊥
    between_apart p between k inside low high =
        let none : Due = record { section = 0; at = 0; len = 0 } in
        let among : Contains (numbers_of sections) (due_at sections k).section = (k, subst (λ (n : ℕ). k < n) (sym (length-map sections (λ (due : Due). due.section))) inside, get_or-map (λ (due : Due). due.section) sections k none (due_at sections k).section inside) in
        let moves = (order.movable (due_at sections k).section).0 among in
        let at = stand k inside in
        let len = due_len written (fixed_end_of file) sections end due k inside in
        between (due_at sections k).section moves.0 moves.1 (omega (arith, at, low)) (omega (arith, at, len, high))

    module _ (some : section_count file ≢ 0) (behind : end ≤ sections_at written) (inside : header_at written (section_count file) ≤ length written) where
      last_is : layout_end file written ≡ header_at written (section_count file)
      last_is = rw (ne_eqb (section_count file) 0 some) refl

      pub stray_row : (p : ℕ) → Stray written (fixed_end_of file) sections end (sections_at written) (header_at written (section_count file)) due behind (omega arith) p → IsMisplaced file written OfByte p
      stray_row p (inl among) =
          let low = filled_from written (fixed_end_of file) sections end p due among in
          let high = filled_to written (fixed_end_of file) sections end p due among in
          inl (record {
            some = some;
            from = low;
            to = omega (arith, high, behind);
            inside = omega (arith, high, behind, inside);
            between = apart_between p (filled_apart written (fixed_end_of file) sections end p due among);
            other = filled_other written (fixed_end_of file) sections p among;
          })
      stray_row p (inr (inl (from, to, other))) =
          let low = due_within written (fixed_end_of file) sections end due in
          inl (record {
            some = some;
            from = omega (arith, low, from);
            to = to;
            inside = omega (arith, to, inside);
            between = apart_between p (λ k few near far. let ends = due_to written (fixed_end_of file) sections end due k few in omega (arith, ends, from, far));
            other = other;
          })
      stray_row p (inr (inr (past, within))) = inr (subst (λ (n : ℕ). n ≤ p) (sym last_is) past, within)

      pub row_stray : (p : ℕ) → IsMisplaced file written OfByte p → Stray written (fixed_end_of file) sections end (sections_at written) (header_at written (section_count file)) due behind (omega arith) p
      row_stray p (inl gap) = elim (filled_or_behind written (fixed_end_of file) sections end p due gap.from gap.other (between_apart p gap.between)) [
        | inl among ↦ inl among
        | inr past ↦ inr (inl (past, gap.to, gap.other))
      ]
      row_stray p (inr (past, within)) = inr (inr (subst (λ (n : ℕ). n ≤ p) last_is past, within))

-- A FILE WITHOUT SECTIONS

module _ (file written : List ℕ) (bare : section_count file ≡ 0) where
  pub end_is : layout_end file written ≡ fixed_end_of file
  end_is = rw (eq-eqb (section_count file) 0 bare) refl

  pub bare_headers : (p : ℕ) → IsMisplaced file written OfHeaders p → ⊥
  bare_headers p (some, other, place) = some bare

  pub bare_bytes : (found : Option ℕ) → IsLeastFound (λ p. (fixed_end_of file ≤ p) × (p < length written)) found → IsLeastFound (IsMisplaced file written OfByte) found
  bare_bytes found least =
      least_found (λ p. (fixed_end_of file ≤ p) × (p < length written)) (IsMisplaced file written OfByte) found
      (λ q past. inr (subst (λ (n : ℕ). n ≤ q) (sym end_is) past.0, past.1))
      (λ q row. elim row [
        | inl gap ↦ absurd (gap.some bare)
        | inr past ↦ (subst (λ (n : ℕ). n ≤ q) end_is past.0, past.1)
      ])
      least
