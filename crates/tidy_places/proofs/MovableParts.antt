-- Movable sections of a file, as they stand in one that is written anew for it.
use Rattle.std.proofs.Common.{◌≡◌, ◌≤◌, ◌<◌, ◌+◌, ◌∙◌, inl, inr, ℕ, suc, List, ◌∷◌, length, map, drop, true, get_or, refl, sym, subst, arith}
use Rattle.std.specs.Prelude.{◌-◌, IsTrue, slice_index_or, slice_range}
use Rattle.std.specs.List.{Contains}
use Rattle.std.proofs.Math.Seq.{drop-cons}
use Rattle.std.proofs.lemmas.Bool.{cases_Bool, true≢false}
use Rattle.std.proofs.lemmas.List.{length-map, get_or-map}
use Rattle.dw_base.specs.declared.fault.Reach.TheVariants.{Wide}
use Rattle.elf_sections.specs.Elf.{section_count, is_movable, has_bytes, align_of, offset_of, size_of, body_span, body_of, section_end}
use Rattle.elf_sections.specs.Faults.{IsRead}
use Rattle.elf_sections.proofs.TextLaws.{length_range}
use Rattle.elf_place.specs.Same.{KeepsHeaders}
use Rattle.elf_place.proofs.Kept.{has_bytes-kept, align-kept}
use Rattle.elf_place.proofs.ReadLaws.{aligned}
use Rattle.tidy_places.specs.declared.due.Due.{Due}
use Rattle.tidy_places.specs.inside.Chains.{AreDue, due_at, numbers_of}

-- the number of a pair is among the numbers of all
pub member_at : (order : List (ℕ × ℕ)) (k : ℕ) → k < length order → Contains (map (λ (place : ℕ × ℕ). place.1) order) (slice_index_or order k (0, 0)).1
member_at order k inside =
    let i : ℕ = (get_or order k (0, 0)).1 in
    (k, subst (λ (n : ℕ). k < n) (sym (length-map order (λ (place : ℕ × ℕ). place.1))) inside, get_or-map (λ (place : ℕ × ℕ). place.1) order k (0, 0) i inside)

-- the number of a due section likewise
pub due_member : (sections : List Due) (k : ℕ) → k < length sections → Contains (numbers_of sections) (due_at sections k).section
due_member sections k inside =
    let none : Due = record { section = 0; at = 0; len = 0 } in
    (k, subst (λ (n : ℕ). k < n) (sym (length-map sections (λ (due : Due). due.section))) inside, get_or-map (λ (due : Due). due.section) sections k none (due_at sections k).section inside)

-- those from one on are it and those behind it
pub due_split : (written : List ℕ) (start : ℕ) (sections : List Due) (k end : ℕ) → k < length sections → AreDue written start (drop k sections) end → AreDue written start (due_at sections k ∷ drop (suc k) sections) end
due_split written start sections k end inside due = subst (λ (all : List Due). AreDue written start all end) (drop-cons sections k (record { section = 0; at = 0; len = 0 }) inside) due

-- a range inside a list has all its bytes
slice_len : (file : List ℕ) (at len : ℕ) → at + len ≤ length file → length (slice_range file at (at + len)) ≡ len
slice_len file at len inside = length_range file at (at + len) (omega arith) inside ∙ (let back : at + len - at ≡ len = omega arith in back)

module _ (file new : List ℕ) (headers : KeepsHeaders file new) (old : IsRead file Wide) (read : IsRead new Wide) (i : ℕ) (inside : i < section_count file) (moves : IsTrue (is_movable file i)) where
  full_before : has_bytes file i ≡ true
  full_before = elim (cases_Bool (has_bytes file i)) [
    | inl full ↦ full
    | inr bare ↦ let never = rw bare at moves in absurd (true≢false (sym never))
  ]

  pub full : has_bytes new i ≡ true
  full = has_bytes-kept file new headers i inside ∙ full_before

  pub body_len : (body_span new i).len ≡ size_of new i
  body_len = rw full refl

  pub lies_inside : offset_of new i + size_of new i ≤ length new
  lies_inside =
      let count : section_count new ≡ section_count file = headers.count in
      let end : section_end new i ≡ offset_of new i + size_of new i = rw full refl in
      omega (arith, end, read.whole.sections i (omega (arith, count, inside)))

  pub few : align_of file i ≤ 4096
  few = aligned file old (λ none. omega (arith, none, inside)) i inside moves

  pub alike : align_of new i ≡ align_of file i
  alike = align-kept file new headers i inside

  -- the body has as many bytes as the section
  pub body_size : size_of new i ≡ length (body_of new i)
  body_size =
      let span : body_span new i ≡ record { at = offset_of new i; len = size_of new i } = rw full refl in
      let room = lies_inside in
      rw span (sym (slice_len new (offset_of new i) (size_of new i) room))
