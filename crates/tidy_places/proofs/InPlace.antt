-- Files that are laid out have nothing amiss.
use Rattle.std.proofs.Common.{◌≡◌, ◌≢◌, ◌≤◌, ◌+◌, ◌∙◌, inl, inr, ℕ, zero, suc, List, [], ◌∷◌, length, true, refl, sym, ap, subst, arith}
use Rattle.std.specs.List.{Contains}
use Rattle.std.proofs.lemmas.Bool.{eq-eqb}
use Rattle.dw_base.specs.declared.fault.Reach.TheVariants.{Wide}
use Rattle.elf_sections.specs.Elf.{section_count, sections_at, header_at, has_no_sections, size_of, fixed_end_of}
use Rattle.elf_sections.specs.Faults.{IsRead}
use Rattle.elf_place.specs.Layout.{IsMovingOrder, IsLaidOut}
use Rattle.tidy_places.specs.declared.due.Due.{Due}
use Rattle.tidy_places.specs.Laws.{IsInPlace}
use Rattle.tidy_places.specs.Misplaced.{IsDueAmong}
use Rattle.tidy_places.specs.Misplaced.Row.{OfSection, OfHeaders, OfByte}
use Rattle.tidy_places.specs.inside.Chains.{AreDue, numbers_of, StandDue}
use Rattle.tidy_places.proofs.LaidOut.{due_from_numbers, numbers_back, due_from_stand, stand_back, none_filled}
use Rattle.tidy_places.proofs.MisplacedRows.{elsewhere_off, headers_once, row_stray, bare_headers, end_is}

module _ (file written : List ℕ) (bytes : ℕ → List ℕ) (some : section_count file ≢ 0) (laid : IsLaidOut file bytes written) where
  abbrev sections : List Due
  sections = due_from_numbers written laid.order

  due : AreDue written (fixed_end_of file) sections laid.end
  due = due_from_stand written bytes laid.order (fixed_end_of file) laid.end laid.sections

  order : IsMovingOrder file (numbers_of sections)
  order = subst (λ (numbers : List ℕ). IsMovingOrder file numbers) (sym (numbers_back written laid.order)) laid.moving

  stand : StandDue written sections
  stand = stand_back written laid.order

  inside : header_at written (section_count file) ≤ length written
  inside = laid.headers.inside some

  last : length written ≡ header_at written (section_count file)
  last = laid.whole ∙ ap (header_at written) laid.headers.count

  pub laid_out_in_place : IsInPlace file written
  laid_out_in_place OfSection p row =
      let off = elsewhere_off file written sections laid.end due order p row in
      off.2 (stand off.0 off.1)
  laid_out_in_place OfHeaders p (apart, (at, there, other), place) = other (sym (headers_once file written sections laid.end due order (sections_at written) at laid.table there))
  laid_out_in_place OfByte p row = elim (row_stray file written sections laid.end due order stand some laid.table.from inside p row) [
    | inl among ↦ none_filled written bytes laid.order (fixed_end_of file) laid.end p laid.sections among
    | inr (inl (low, high, other)) ↦ other (laid.gap p low high)
    | inr (inr (past, within)) ↦ omega (arith, last, past, within)
  ]

-- what is due is among the sections
due_among : (written order : List ℕ) (start i at : ℕ) → IsDueAmong written order start i at → Contains order i
due_among written [] start i at none = absurd none
due_among written (first ∷ order) start i at (place, next, inl (same, there)) = (zero, omega arith, sym same)
due_among written (first ∷ order) start i at (place, next, inr later) =
    let c = due_among written order (place + size_of written first) i at later in
    (suc c.0, omega (arith, c.1), c.2)

pub bare_in_place : (file : List ℕ) → IsRead file Wide → section_count file ≡ 0 → IsInPlace file file
bare_in_place file read bare OfSection p (i, at, there, off, place) =
    let moves = (there.moving.movable i).0 (due_among file there.order (fixed_end_of file) i at there.due) in
    omega (arith, bare, moves.0)
bare_in_place file read bare OfHeaders p row = bare_headers file file bare p row
bare_in_place file read bare OfByte p (inl gap) = gap.some bare
bare_in_place file read bare OfByte p (inr (past, within)) =
    let none : has_no_sections file ≡ true = rw (eq-eqb (section_count file) 0 bare, eq-eqb (sections_at file) 0 (read.small.none bare)) refl in
    let whole : fixed_end_of file ≡ length file = rw none refl in
    omega (arith, whole, end_is file file bare, past, within)
