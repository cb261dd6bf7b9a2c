-- Sections that stand where they are due, with nothing but bytes 0 between, are laid out.
use Rattle.std.proofs.Common.{◌≡◌, ◌<◌, ◌+◌, inl, inr, ℕ, zero, suc, List, [], ◌∷◌, length, map, refl, sym, ap, subst, arith}
use Rattle.std.specs.Prelude.{slice_index}
use Rattle.std.proofs.lemmas.Bool.{cases_eq}
use Rattle.elf_sections.specs.Elf.{section_count, sections_at, header_at, offset_of, size_of, align_of, body_of, fixed_end_of}
use Rattle.elf_place.specs.Layout.{IsNextMultiple, IsMovingOrder, IsGap, Stand, StandsAfter, IsLaidOut}
use Rattle.elf_place.specs.Same.{KeepsLoaded, KeepsHeaders}
use Rattle.tidy_places.specs.declared.due.Due.{Due}
use Rattle.tidy_places.specs.inside.Chains.{AreDue, due_at, numbers_of, StandDue, IsFilledBetween, IsFilledAmong}

-- bytes none of which is other than 0
pub gap_from : (file : List ℕ) (from to : ℕ) → ((p : ℕ) → IsFilledBetween file from to p → ⊥) → IsGap file from to
gap_from file from to none = λ k low high. elim (cases_eq (slice_index file k) 0) [
  | inl same ↦ same
  | inr other ↦ absurd (none k (low, high, other))
]

pub stand_from : (file : List ℕ) (start : ℕ) (sections : List Due) (end : ℕ) → AreDue file start sections end → StandDue file sections → ((p : ℕ) → IsFilledAmong file start sections p → ⊥) → ((k : ℕ) → k < length sections → size_of file (due_at sections k).section ≡ length (body_of file (due_at sections k).section)) → Stand file (body_of file) (numbers_of sections) start end
stand_from file start [] end e stand none sizes = sym e
stand_from file start (first ∷ sections) end (here, rest) stand none sizes =
    let at : offset_of file first.section ≡ first.at = stand zero (omega arith) in
    let after : StandsAfter file start first.section (body_of file first.section) = record {
      place = subst (λ (n : ℕ). IsNextMultiple start (align_of file first.section) n) (sym at) here.place;
      gap = subst (λ (n : ℕ). IsGap file start n) (sym at) (gap_from file start first.at (λ p between. none p (inl between)));
      size = sizes zero (omega arith);
      body = refl;
    } in
    let behind : first.at + first.len ≡ offset_of file first.section + size_of file first.section = omega (arith, at, here.size) in (
      after,
      subst (λ (n : ℕ). Stand file (body_of file) (numbers_of sections) n end) behind
          (stand_from file (first.at + first.len) sections end rest (λ k inside. stand (suc k) (omega (arith, inside))) (λ p among. none p (inr among)) (λ k inside. sizes (suc k) (omega (arith, inside)))),
    )

-- Sections that are laid out, with the places where they stand.
abbrev pub due_from_numbers : List ℕ → List ℕ → List Due
due_from_numbers file order = map (λ (i : ℕ). record { section = i; at = offset_of file i; len = size_of file i }) order

pub numbers_back : (file order : List ℕ) → numbers_of (due_from_numbers file order) ≡ order
numbers_back file [] = refl
numbers_back file (i ∷ order) = ap (λ (rest : List ℕ). i ∷ rest) (numbers_back file order)

pub due_from_stand : (file : List ℕ) (bytes : ℕ → List ℕ) (order : List ℕ) (start end : ℕ) → Stand file bytes order start end → AreDue file start (due_from_numbers file order) end
due_from_stand file bytes [] start end e = sym e
due_from_stand file bytes (i ∷ order) start end (here, rest) =
    (record { place = here.place; size = refl }, due_from_stand file bytes order (offset_of file i + size_of file i) end rest)

pub stand_back : (file order : List ℕ) → StandDue file (due_from_numbers file order)
stand_back file [] k inside = absurd (omega arith)
stand_back file (i ∷ order) zero inside = refl
stand_back file (i ∷ order) (suc k) inside = stand_back file order k (omega (arith, inside))

pub none_filled : (file : List ℕ) (bytes : ℕ → List ℕ) (order : List ℕ) (start end p : ℕ) → Stand file bytes order start end → IsFilledAmong file start (due_from_numbers file order) p → ⊥
none_filled file bytes [] start end p stand none = none
none_filled file bytes (i ∷ order) start end p (here, rest) (inl (low, high, other)) = other (here.gap p low high)
none_filled file bytes (i ∷ order) start end p (here, rest) (inr later) = none_filled file bytes order (offset_of file i + size_of file i) end p rest later

-- A WRITTEN FILE

-- where nothing is amiss the file is laid out
module _ (file written : List ℕ) (loaded : KeepsLoaded file written) (headers : KeepsHeaders file written) (sections : List Due) (end : ℕ) (due : AreDue written (fixed_end_of file) sections end) (order : IsMovingOrder file (numbers_of sections)) (stand : StandDue written sections) where
  pub laid_out_from : ((k : ℕ) → k < length sections → size_of written (due_at sections k).section ≡ length (body_of written (due_at sections k).section)) → IsNextMultiple end 8 (sections_at written) → ((p : ℕ) → IsFilledAmong written (fixed_end_of file) sections p → ⊥) → ((p : ℕ) → IsFilledBetween written end (sections_at written) p → ⊥) → length written ≡ header_at written (section_count written) → IsLaidOut file (body_of written) written
  laid_out_from sizes next none clear whole = record {
    loaded = loaded;
    headers = headers;
    order = numbers_of sections;
    moving = order;
    end = end;
    sections = stand_from written (fixed_end_of file) sections end due stand none sizes;
    table = next;
    gap = gap_from written end (sections_at written) clear;
    whole = whole;
  }
