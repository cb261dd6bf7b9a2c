-- In a file that is written anew its parts stand where they are due, nothing follows the trees of its units, its line number programs have the
-- opcodes of all twelve standard ones or are as they were, and lists that are kept have the entries that they had.
use Rattle.std.proofs.Common.{◌≡◌, ◌<◌, inl, inr, ◌∙◌, ℕ, zero, suc, List, [], ◌∷◌, length, get_or, sym, ap, subst, refl, arith}
use Rattle.std.specs.Prelude.{false}
use Rattle.std.proofs.lemmas.Bool.{cases_eq}
use Rattle.std.proofs.lemmas.List.{get_or-map, length-map}
use Rattle.std.proofs.lemmas.List.Elements.{All-get_or}
use Rattle.dw_base.specs.declared.classes.Classes.{Classes}
use Rattle.dw_base.specs.declared.fault.Reach.TheVariants.{Wide}
use Rattle.elf_sections.specs.Elf.{section_count}
use Rattle.elf_sections.specs.Faults.{IsRead}
use Rattle.line_machine.specs.declared.head.Head.{Head}
use Rattle.line_write.specs.Least.{LeastLines, IsLeastProgram, AreEach}
use Rattle.line_write.proofs.Tiling.{one_tile}
use Rattle.value_links.specs.Reading.{ProgramRead, Reading, line_heads, no_program, no_unit, unit_at, program_at}
use Rattle.value_links.specs.Sections.{debug_line}
use Rattle.value_links.proofs.ReadingOnce.{reading_once}
use Rattle.value_links.proofs.ValidImages.{image_in_order}
use Rattle.written_files.specs.Placed.{body_in}
use Rattle.written_files.specs.Tidy.{IsTidyUnit}
use Rattle.written_files.specs.Written.{IsWrittenAnew}
use Rattle.tidy_places.specs.Laws.{IsInPlace, LaidOutIsInPlace, BareIsInPlace}
use Rattle.tidy_files.specs.Tidy.{IsPaddedUnit, IsOtherProgram, IsOtherByte, IsOtherLineByte, IsLineAmiss, IsChangedList}
use Rattle.tidy_files.proofs.KeptLists.{same_entries}

-- each of the programs has that opcode_base
each_base : (old new : List ℕ) (heads written : List Head) (i : ℕ) (d : Head) → AreEach (IsLeastProgram old new) heads written → i < length written → (get_or written i d).opcode_base ≡ 13
each_base old new [] [] i d each inside = absurd (omega (arith, inside))
each_base old new [] (one ∷ others) i d each inside = absurd each
each_base old new (head ∷ heads) [] i d each inside = absurd each
each_base old new (head ∷ heads) (one ∷ others) zero d each inside = each.0.opcode_base
each_base old new (head ∷ heads) (one ∷ others) (suc i) d each inside = each_base old new heads others i d each.1 (omega (arith, inside))

module _ (classes : Classes) (file written : List ℕ) (anew : IsWrittenAnew classes file written) where
  -- a file with sections is laid out anew, and one without them stays as it is
  pub places_right : LaidOutIsInPlace → BareIsInPlace → IsInPlace file written
  places_right laid bare = elim (cases_eq (section_count file) 0) [
    | inl none ↦
        let same : written ≡ file = anew.placed.bare none in
        let read : IsRead file Wide = subst (λ (z : List ℕ). IsRead z Wide) same (image_in_order written Wide anew.still_valid) in
        subst (IsInPlace file) (sym same) (bare file read none)
    | inr some ↦ laid file written (body_in file written) some (anew.placed.laid_out some)
  ]

  -- a unit is its header and its tree
  pub units_filled : (p : ℕ) → IsPaddedUnit written p → ⊥
  units_filled p padded =
      let (r, s, read, again, tidy) = anew.tidy in
      let same : s ≡ padded.s = reading_once written s padded.s again padded.read in
      let unit : IsTidyUnit (unit_at s.links padded.u) = All-get_or IsTidyUnit s.links.units padded.u no_unit (subst (λ (z : Reading). padded.u < length z.links.units) (sym same) padded.known) tidy.units in
      padded.padded (subst (λ (z : Reading). IsTidyUnit (unit_at z.links padded.u)) same unit).filled

  -- where the line number programs are the least, each has the opcode_base 13
  base_right : LeastLines (debug_line file) (debug_line written) → (p : ℕ) → IsOtherProgram written p → ⊥
  base_right (heads, made, old_tiled, tiled, each) p other =
      let same : made ≡ line_heads other.s.links.programs = one_tile (debug_line written) made (line_heads other.s.links.programs) 0 tiled other.read.links.programs.tiled in
      let head : get_or (line_heads other.s.links.programs) other.i no_program.head ≡ (program_at other.s.links other.i).head = get_or-map (λ (p : ProgramRead). p.head) other.s.links.programs other.i no_program no_program.head other.known in
      let count : length (line_heads other.s.links.programs) ≡ length other.s.links.programs = length-map other.s.links.programs (λ (p : ProgramRead). p.head) in
      let base : (get_or made other.i no_program.head).opcode_base ≡ 13 = each_base (debug_line file) (debug_line written) heads made other.i no_program.head each (let less = other.known in let size = ap (λ (z : List Head). length z) same in omega (arith, less, size, count)) in
      other.other (sym (ap (λ (z : Head). z.opcode_base) (ap (λ (z : List Head). get_or z other.i no_program.head) same ∙ head)) ∙ base)

  -- where they are kept, each byte is the one that stood there
  bytes_right : debug_line written ≡ debug_line file → (p : ℕ) → IsOtherLineByte file written p → ⊥
  bytes_right same p (k, other, at) = none (subst (λ (z : List ℕ). IsOtherByte (debug_line file) z k) same other)
    where
      none : IsOtherByte (debug_line file) (debug_line file) k → ⊥
      none (inl (inside, differs)) = differs inside refl
      none (inr (past, inside)) = omega (arith, past, inside)

  -- so nothing is amiss with them
  pub programs_right : (p : ℕ) → IsLineAmiss classes file written p → ⊥
  programs_right p (inl (searched, other)) = base_right (anew.least.least searched) p other
  programs_right p (inr (kept, other)) = bytes_right (anew.least.kept kept) p other

  -- and where the classes keep the entries of lists, each list has those that it had
  pub lists_stay : classes.lists ≡ false → (p : ℕ) → IsChangedList file written p → ⊥
  lists_stay kept p (kind, x) = x.changed (same_entries classes file written anew kept x.r x.s x.read x.again kind x.k x.known x.inside)
