-- The image of a valid file is in order: each fact that is asked of an image has a fault that says the contrary.
use Rattle.std.proofs.Common.{◌≡◌, ◌≢◌, ◌≤◌, ◌<◌, ◌+◌, ◌∙◌, ◌⊎◌, inl, inr, ℕ, zero, suc, List, length, Bool, true, false, sym, refl, true≢false, arith}
use Rattle.std.specs.Prelude.{[], ◌∷◌, slice_range, bytes_eq}
use Rattle.std.proofs.lemmas.Bool.{cases_lt, cases_eq, false_from_ne_true, true_from_ne_false}
use Rattle.std.proofs.lemmas.Slice.Eq.{bytes_eq-Decides}
use Rattle.dw_base.specs.declared.fault.Kind.TheVariants.{NotElf64, FileType, Torn, Overlap, Compressed, Relocated, TwoSections, Placed, Companion, Limit}
use Rattle.dw_base.specs.declared.fault.Reach.{Reach}
use Rattle.elf_sections.specs.Elf.{IsElf64, file_type, section_count, section_size, segment_count, segment_size, segments_at, sections_at, names_index, name_offset, segment_at, header_at, segment_end, section_end, offset_of}
use Rattle.elf_sections.specs.Names.{names_of, name_of, IsNamed, is_debug_name}
use Rattle.elf_sections.specs.Faults.{file_limit, movable_limit, movable_bytes, is_overlapping, is_compressed, is_debug_relocation, is_misplaced, is_companion, is_too_long, is_overaligned, SomeSection, IsHeaderTorn, IsTorn, IsHeaderTooLarge, IsLimit, HasSectionTable, HasSegmentTable, IsHeaderSmall, IsWhole, IsSectionSound, IsSound}
use Rattle.value_links.specs.Faults.{IsValid}
use Rattle.value_links.specs.Faults.Pass.{OfFile, OfNames}
use Rattle.value_links.specs.Laws.{IsImageInOrder}

-- numbers that aren't so are the contrary
at_most : (a b : ℕ) → (b < a → ⊥) → a ≤ b
at_most a b never = elim (cases_lt b a) [ inl past ↦ absurd (never past) | inr within ↦ within ]

below : (a b : ℕ) → (b ≤ a → ⊥) → a < b
below a b never = elim (cases_lt a b) [ inl within ↦ within | inr past ↦ absurd (never past) ]

same : (a b : ℕ) → (a ≢ b → ⊥) → a ≡ b
same a b never = elim (cases_eq a b) [ inl e ↦ e | inr other ↦ absurd (never other) ]

module _ (file : List ℕ) (reach : Reach) (valid : IsValid file reach) where
  is_elf : IsElf64 file
  is_elf =
      let begin : List ℕ = 127 ∷ 69 ∷ 76 ∷ 70 ∷ 2 ∷ 1 ∷ 1 ∷ [] in
      let some : (IsElf64 file → ⊥) → ⊥ = λ other. valid OfFile NotElf64 0 (refl, other) in
      let starts : bytes_eq (slice_range file 0 7) begin ≡ true = true_from_ne_false (bytes_eq (slice_range file 0 7) begin) (λ fails. some (λ elf. true≢false (sym ((bytes_eq-Decides (slice_range file 0 7) begin).1 elf.1) ∙ fails))) in
      (at_most 64 (length file) (λ few. some (λ elf. let long : 64 ≤ length file = elf.0 in omega arith)), (bytes_eq-Decides (slice_range file 0 7) begin).0 starts)

  not_torn : (place : ℕ) → IsTorn file place → ⊥
  not_torn place torn = valid OfFile Torn place (is_elf, torn)

  not_limit : (place : ℕ) → IsLimit file reach place → ⊥
  not_limit place large = valid OfFile Limit place (inr (is_elf, large))

  header_whole : IsHeaderTorn file → ⊥
  header_whole torn = not_torn 0 (inl (refl, torn))

  header_small : IsHeaderTooLarge file reach → ⊥
  header_small large = not_limit 0 (inl (refl, large))

  small : IsHeaderSmall file reach
  small = record {
    bytes = at_most (length file) (file_limit reach) (λ past. header_small (inl past));
    sections = at_most (section_count file) 65279 (λ past. header_small (inr (inl past)));
    segments = at_most (segment_count file) 65534 (λ past. header_small (inr (inr (inl past))));
    names = λ e. header_small (inr (inr (inr (inl e))));
    none = λ e. same (sections_at file) 0 (λ other. header_small (inr (inr (inr (inr (e, other))))));
  }

  linked : (file_type file ≡ 2) ⊎ (file_type file ≡ 3)
  linked = elim (cases_eq (file_type file) 2) [
    | inl e ↦ inl e
    | inr other ↦ inr (same (file_type file) 3 (λ another. valid OfFile FileType 16 (is_elf, (refl, other, another))))
  ]

  section_table : HasSectionTable file
  section_table = record {
    sizes = λ some. same (section_size file) 64 (λ other. header_whole (inl (inl (some, other))));
    inside = λ some. at_most (header_at file (section_count file)) (length file) (λ past. header_whole (inr (inl (inl (some, past)))));
    names = λ some. below (names_index file) (section_count file) (λ past. header_whole (inr (inr (some, past))));
  }

  segment_table : HasSegmentTable file
  segment_table = record {
    sizes = λ some. same (segment_size file) 56 (λ other. header_whole (inl (inr (some, other))));
    inside = λ some. at_most (segment_at file (segment_count file)) (length file) (λ past. header_whole (inr (inl (inr (some, past)))));
  }

  -- the header of a section, and of a segment, lies in the file
  section_header : (i : ℕ) → i < section_count file → header_at file (suc i) ≤ length file
  section_header i inside =
      let table : header_at file (section_count file) ≤ length file = section_table.inside (λ none. omega (arith, inside, none)) in
      omega (arith, table, inside)

  segment_header : (i : ℕ) → i < segment_count file → segment_at file (suc i) ≤ length file
  segment_header i inside =
      let table : segment_at file (segment_count file) ≤ length file = segment_table.inside (λ none. omega (arith, inside, none)) in
      omega (arith, table, inside)

  segment_inside : (i : ℕ) → i < segment_count file → segment_at file (suc i) ≤ length file → segment_end file i ≤ length file
  segment_inside i inside header = at_most (segment_end file i) (length file) (λ past. not_torn (segment_at file i) (inr (inl (i, search, refl, past))))

  section_inside : (i : ℕ) → i < section_count file → header_at file (suc i) ≤ length file → section_end file i ≤ length file
  section_inside i inside header = at_most (section_end file i) (length file) (λ past. not_torn (header_at file i) (inr (inr (i, search, refl, inl past))))

  named : (i : ℕ) → i < section_count file → header_at file (suc i) ≤ length file → IsNamed file i
  named i inside header some =
      let end : ℕ = name_offset file i + length (name_of file i) in
      below end (length (names_of file)) (λ past. not_torn (header_at file i) (inr (inr (i, search, refl, inr (λ is. let within : end < length (names_of file) = is some in omega (arith, past, within))))))

  whole : IsWhole file
  whole = record {
    section_table = section_table;
    segment_table = segment_table;
    segments = λ i inside. segment_inside i inside (segment_header i inside);
    sections = λ i inside. section_inside i inside (section_header i inside);
    named = λ i inside. named i inside (section_header i inside);
  }

  -- a section that passes a test begins at its offset
  some_section : (test : ℕ → Bool) (i : ℕ) → i < section_count file → header_at file (suc i) ≤ length file → test i ≡ true → SomeSection file test (offset_of file i)
  some_section test i inside header passes = (i, search, refl, passes)

  -- a test of sections that no section passes
  fails : (test : ℕ → Bool) (i : ℕ) → i < section_count file → (SomeSection file test (offset_of file i) → ⊥) → test i ≡ false
  fails test i inside none = false_from_ne_true (test i) (λ passes. none (some_section test i inside (section_header i inside) passes))

  section_sound : (i : ℕ) → i < section_count file → IsSectionSound file reach i
  section_sound i inside = record {
    apart = fails (is_overlapping file) i inside (λ some. valid OfFile Overlap (offset_of file i) (is_elf, inr some));
    plain = fails (is_compressed file) i inside (λ some. valid OfFile Compressed (offset_of file i) (is_elf, some));
    resolved = fails (is_debug_relocation file) i inside (λ some. valid OfFile Relocated (offset_of file i) (is_elf, some));
    placed = fails (is_misplaced file) i inside (λ some. valid OfFile Placed (offset_of file i) (is_elf, some));
    short = fails (is_too_long file reach) i inside (λ some. not_limit (offset_of file i) (inr (inl some)));
    aligned = fails (is_overaligned file) i inside (λ some. not_limit (offset_of file i) (inr (inr (inl some))));
  }

  distinct : (i j : ℕ) → i < j → j < section_count file → header_at file (suc j) ≤ length file → is_debug_name (name_of file j) ≡ true → name_of file i ≢ name_of file j
  distinct i j before inside header debug alike = valid OfFile TwoSections (offset_of file j) (is_elf, (i, j, before, search, refl, debug, alike))

  movable_step : (n : ℕ) → n < section_count file → header_at file (suc n) ≤ length file → movable_bytes file n ≤ movable_limit reach → movable_bytes file (suc n) ≤ movable_limit reach
  movable_step n inside header before = at_most (movable_bytes file (suc n)) (movable_limit reach) (λ past. not_limit (offset_of file n) (inr (inr (inr (n, search, refl, (before, past))))))

  -- the bytes of the movable sections among the first n
  movable : (n : ℕ) → n ≤ section_count file → movable_bytes file n ≤ movable_limit reach
  movable zero within = omega arith
  movable (suc n) within = movable_step n (omega arith) (section_header n (omega arith)) (movable n (omega arith))

  sound : IsSound file reach
  sound = record {
    apart = λ overlap. valid OfFile Overlap (segments_at file) (is_elf, inl (refl, overlap));
    sections = section_sound;
    known = λ i inside. fails (is_companion file) i inside (λ some. valid OfNames Companion (offset_of file i) (is_elf, some));
    distinct = λ i j before inside debug. distinct i j before inside (section_header j inside) debug;
    movable = movable (section_count file) (omega arith);
  }

  pub image_in_order : IsImageInOrder file reach
  image_in_order = record { elf = is_elf; linked = linked; small = small; whole = whole; sound = sound }
