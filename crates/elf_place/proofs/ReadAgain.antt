-- A file that was written anew has no fault under the wide limits.
use Rattle.std.proofs.Common.{◌≡◌, ◌≢◌, ◌≤◌, ◌<◌, ◌+◌, ◌^◌, ◌⊎◌, ℕ, min, max, List, Bool, true, false, ◌&&◌, ◌||◌, eqb, ltb, length, refl, sym, ◌∙◌, ap, arith, inl, inr}
use Rattle.std.specs.Prelude.{IsTrue, slice_range}
use Rattle.std.proofs.lemmas.Bool.{cases_Bool, cases_lt, and_left, and_right, or_from, le-ltb, ltb-false, ne_eqb}
use Rattle.dw_base.specs.declared.fault.Reach.TheVariants.{Narrow, Wide}
use Rattle.elf_sections.specs.Elf.{IsElf64, file_type, section_count, segment_count, segments_at, names_index, segment_at, segment_end, section_end, segments_end, offset_of, size_of, info_of, align_of, has_bytes, body_span, body_of, fixed_end_of, is_movable}
use Rattle.elf_sections.specs.Names.{names_of, name_of, IsNamed, is_debug_name}
use Rattle.elf_sections.specs.Faults.{holds_e_shoff, is_overlapping, is_compressed, is_debug_relocation, is_misplaced, is_companion, is_too_long, is_overaligned, DoSegmentsOverlap, HasSectionTable, HasSegmentTable, IsWhole, IsHeaderSmall, IsSectionSound, HasDistinctNames, IsSound, IsRead, movable_bytes, debug_limit}
use Rattle.elf_place.specs.declared.bodies.NewBody.{NewBody}
use Rattle.elf_place.specs.Bodies.{AreSmall, KeepsNames, body_after, has_new_body}
use Rattle.elf_place.specs.Same.{KeepsLoaded, KeepsHeaders, SameImage}
use Rattle.elf_place.proofs.BodyLaws.{body_after-small}
use Rattle.elf_place.proofs.Kept.{front-number, segment_count-kept, segments_at-kept, segments_end-kept, segment_end-kept, name_offset-kept, kind-kept, flags-kept, info-kept, align-kept, has_bytes-kept, section_end-kept}
use Rattle.elf_place.proofs.Placed.{IsPlaced}
use Rattle.elf_place.proofs.Ranges.{same_ranges}
use Rattle.elf_place.proofs.ReadLaws.{fixed_end-within, segments_end-below, segment_end-below, fixed-inside, aligned}
use Rattle.elf_place.proofs.Sizes.{length-body_of-span, span-size, length-new, movable-new, stands}

-- the file's header, its tables and the segments
module _ (file new : List ℕ) (read : IsRead file Wide) (some : section_count file ≢ 0) (loaded : KeepsLoaded file new) (headers : KeepsHeaders file new) where
  within : (64 ≤ fixed_end_of file) × (fixed_end_of file ≤ length file)
  within = fixed_end-within file read some

  large : 64 ≤ fixed_end_of file
  large = within.0

  long : 64 ≤ length new
  long = omega (arith, large, loaded.inside)

  index-kept : names_index new ≡ names_index file
  index-kept = front-number file new loaded 2 62 (omega (arith, large)) (inr (omega arith))

  type-kept : file_type new ≡ file_type file
  type-kept = front-number file new loaded 2 16 (omega (arith, large)) (inl (omega arith))

  elf : IsElf64 new
  elf =
      let first : slice_range new 0 7 ≡ slice_range file 0 7 =
      same_ranges new file 0 7 (omega arith) (omega (arith, long)) (omega (arith, read.elf.0)) (λ k low high. loaded.bytes k (omega (arith, large)) (inl (omega arith))) in
      (long, first ∙ read.elf.1)

  linked : (file_type new ≡ 2) ⊎ (file_type new ≡ 3)
  linked = elim read.linked [ inl program ↦ inl (type-kept ∙ program) | inr shared ↦ inr (type-kept ∙ shared) ]

  small : length new ≤ 2 ^ 35 → IsHeaderSmall new Wide
  small few = record {
    bytes = few;
    sections = omega (arith, headers.count, read.small.sections);
    segments = omega (arith, segment_count-kept file new loaded large, read.small.segments);
    names = λ e. read.small.names (sym index-kept ∙ e);
    none = λ e. absurd (some (sym headers.count ∙ e));
  }

  section_table : HasSectionTable new
  section_table = record {
    sizes = λ present. front-number file new loaded 2 58 (omega (arith, large)) (inr (omega arith)) ∙ read.whole.section_table.sizes some;
    inside = λ present. omega (arith, headers.count, headers.inside some);
    names = λ named. omega (arith, headers.count, index-kept, read.whole.section_table.names (λ e. named (index-kept ∙ e)));
  }

  segment_table : HasSegmentTable new
  segment_table = record {
    sizes = λ present. front-number file new loaded 2 54 (omega (arith, large)) (inr (omega arith)) ∙ read.whole.segment_table.sizes (λ e. present (segment_count-kept file new loaded large ∙ e));
    inside = λ present.
        let ends : segments_end new ≡ segment_at new (segment_count new) = rw (ne_eqb (segment_count new) 0 present) refl in
        omega (arith, ends, segments_end-kept file new loaded large, segments_end-below file read some, loaded.inside);
  }

  segments : (i : ℕ) → i < segment_count new → segment_end new i ≤ length new
  segments i lt =
      let inside : i < segment_count file = omega (arith, segment_count-kept file new loaded large) in
      omega (arith, segment_end-kept file new read some loaded headers i inside, segment_end-below file read some i inside, loaded.inside)

  segments-apart : ¬ DoSegmentsOverlap new
  segments-apart (present, holds) =
      let present_old : segment_count file ≢ 0 = λ e. present (segment_count-kept file new loaded large ∙ e) in
      let same : holds_e_shoff (segments_at new) (segments_end new) ≡ holds_e_shoff (segments_at file) (segments_end file) =
      ap (λ (n : ℕ). holds_e_shoff n (segments_end new)) (segments_at-kept file new loaded large) ∙ ap (holds_e_shoff (segments_at file)) (segments_end-kept file new loaded large) in
      read.sound.apart (present_old, sym same ∙ holds)

-- a section that begins at the fixed end or after it overlaps nothing
abbrev overlapping : Bool → ℕ → ℕ → ℕ → Bool
overlapping full from to end = full && ((ltb from end && ltb end to) || holds_e_shoff from to)

after-apart : (full : Bool) (from to end : ℕ) → 64 ≤ end → end ≤ from → overlapping full from to end ≡ false
after-apart full from to end large after =
    let across : (ltb from end && ltb end to) ≡ false = and_left (ltb from end) (ltb end to) (le-ltb from end after) in
    let clear : holds_e_shoff from to ≡ false = le-ltb (max from 40) (min to 48) (omega arith) in
    and_right full ((ltb from end && ltb end to) || holds_e_shoff from to) (or_from (ltb from end && ltb end to) (holds_e_shoff from to) across clear)

-- a length that passes no limit, where another one doesn't
shorter : (counts : Bool) (limit old new : ℕ) → (new ≤ limit) ⊎ (new ≤ old) → (counts && ltb limit old) ≡ false → (counts && ltb limit new) ≡ false
shorter false limit old new less short = refl
shorter true limit old new (inl within) short = le-ltb limit new within
shorter true limit old new (inr less) short = let below : old ≤ limit = ltb-false limit old short in le-ltb limit new (omega arith)

-- the sections
module _ (file new : List ℕ) (bodies : List NewBody) (read : IsRead file Wide) (some : section_count file ≢ 0) (placed : IsPlaced file bodies new) (keeps : KeepsNames file bodies) where
  same : SameImage (has_new_body bodies) file new
  same = placed.same keeps

  index : names_index new ≡ names_index file
  index = index-kept file new read some same.loaded same.headers

  names_of-kept : names_index file ≢ 0 → names_of new ≡ names_of file
  names_of-kept named =
      let named_new : eqb (names_index new) 0 ≡ false = ne_eqb (names_index new) 0 (λ e. named (sym index ∙ e)) in
      let named_old : eqb (names_index file) 0 ≡ false = ne_eqb (names_index file) 0 named in
      rw (named_new, named_old) (ap (body_of new) index ∙ same.bodies (names_index file) (read.whole.section_table.names named) (keeps named))

  named : (i : ℕ) → i < section_count file → IsNamed new i
  named i lt = λ there.
      let there_old : names_index file ≢ 0 = λ e. there (index ∙ e) in
      let before = read.whole.named i lt there_old in
      let lengths : length (names_of new) ≡ length (names_of file) = ap (λ (names : List ℕ). length names) (names_of-kept there_old) in
      let name : length (name_of new i) ≡ length (name_of file i) = ap (λ (bytes : List ℕ). length bytes) (same.names i lt) in
      omega (arith, name_offset-kept file new same.headers i lt, before, lengths, name)

  section_within : (i : ℕ) → section_end new i ≤ offset_of new i + size_of new i
  section_within i = elim (cases_Bool (has_bytes new i)) [ inl full ↦ rw full (omega arith) | inr empty ↦ rw empty (omega arith) ]

  sections-inside : (i : ℕ) → i < section_count file → section_end new i ≤ length new
  sections-inside i lt =
      elim (cases_Bool (is_movable file i)) [
        | inl moves ↦ omega (arith, section_within i, (stands file new bodies placed.laid_out i lt moves).to, placed.laid_out.table.from, placed.laid_out.whole)
        | inr stays ↦
            let is : section_end new i ≡ section_end file i = section_end-kept file new same.headers i lt stays in
            elim (cases_Bool (has_bytes file i)) [
              | inl full ↦
                  let end : section_end file i ≡ offset_of file i + size_of file i = rw full refl in
                  omega (arith, is, end, fixed-inside file read some i lt full stays, same.loaded.inside)
              | inr empty ↦ let end : section_end file i ≡ 0 = rw empty refl in omega (arith, is, end)
            ]
      ]

  section-apart : (i : ℕ) → i < section_count file → is_overlapping new i ≡ false
  section-apart i lt =
      let end : fixed_end_of new ≡ fixed_end_of file = placed.fixed_end in
      elim (cases_Bool (is_movable file i)) [
        | inl moves ↦
            let large = (fixed_end-within file read some).0 in
            after-apart (has_bytes new i) (offset_of new i) (section_end new i) (fixed_end_of new) (omega (arith, end, large)) (omega (arith, end, (stands file new bodies placed.laid_out i lt moves).from))
        | inr stays ↦
            ap (λ (b : Bool). overlapping b (offset_of new i) (section_end new i) (fixed_end_of new)) (has_bytes-kept file new same.headers i lt)
            ∙ ap (λ (n : ℕ). overlapping (has_bytes file i) n (section_end new i) (fixed_end_of new)) (same.headers.offsets i lt stays)
            ∙ ap (λ (n : ℕ). overlapping (has_bytes file i) (offset_of file i) n (fixed_end_of new)) (section_end-kept file new same.headers i lt stays)
            ∙ ap (overlapping (has_bytes file i) (offset_of file i) (section_end file i)) end
            ∙ (read.sound.sections i lt).apart
      ]

  section-plain : (i : ℕ) → i < section_count file → is_compressed new i ≡ false
  section-plain i lt = rw (same.names i lt, flags-kept file new same.headers i lt) (read.sound.sections i lt).plain

  debug-kept : (j : ℕ) → (ltb j (section_count new) && is_debug_name (name_of new j)) ≡ (ltb j (section_count file) && is_debug_name (name_of file j))
  debug-kept j =
      elim (cases_lt j (section_count file)) [
        | inl inside ↦ rw (same.headers.count, same.names j inside) refl
        | inr outside ↦ let none : ltb j (section_count file) ≡ false = le-ltb j (section_count file) outside in rw (same.headers.count, none) refl
      ]

  section-resolved : (i : ℕ) → i < section_count file → is_debug_relocation new i ≡ false
  section-resolved i lt =
      rw (kind-kept file new same.headers i lt, info-kept file new same.headers i lt, debug-kept (info_of file i)) (read.sound.sections i lt).resolved

  section-placed : (i : ℕ) → i < section_count file → is_misplaced new i ≡ false
  section-placed i lt = rw (same.names i lt, placed.movable i lt, index) (read.sound.sections i lt).placed

  section-aligned : (i : ℕ) → i < section_count file → is_overaligned new i ≡ false
  section-aligned i lt = rw (placed.movable i lt, align-kept file new same.headers i lt) (read.sound.sections i lt).aligned

  known : (i : ℕ) → i < section_count file → is_companion new i ≡ false
  known i lt = rw (same.names i lt) (read.sound.known i lt)

  distinct : HasDistinctNames new
  distinct i j less lt debug =
      let inside : j < section_count file = omega (arith, same.headers.count) in
      let first = same.names i (omega arith) in
      let second = same.names j inside in
      let debug_old = rw second at debug in
      λ (e : name_of new i ≡ name_of new j). read.sound.distinct i j less inside debug_old (sym first ∙ e ∙ second)

  -- a section has few bytes, or no more than before
  span-small : AreSmall bodies → (i : ℕ) → i < section_count file → ((body_span new i).len ≤ debug_limit Wide) ⊎ ((body_span new i).len ≤ (body_span file i).len)
  span-small few i lt =
      elim (cases_Bool (is_movable file i)) [
        | inl moves ↦
            let size = (stands file new bodies placed.laid_out i lt moves).size in
            elim (body_after-small file bodies i few.each) [
              | inl less ↦ inl (omega (arith, span-size new i, size, less))
              | inr own ↦
                  let old : length (body_after file bodies i) ≡ length (body_of file i) = ap (λ (b : List ℕ). length b) own in
                  inr (omega (arith, span-size new i, size, old, length-body_of-span file i))
            ]
        | inr stays ↦
            let full : has_bytes new i ≡ has_bytes file i = has_bytes-kept file new same.headers i lt in
            let size : size_of new i ≡ size_of file i = same.headers.sizes i lt stays in
            inr (elim (cases_Bool (has_bytes file i)) [
              | inl holds ↦ let holds_new : has_bytes new i ≡ true = full ∙ holds in rw (holds_new, holds) (omega arith)
              | inr empty ↦ let empty_new : has_bytes new i ≡ false = full ∙ empty in rw (empty_new, empty) (omega arith)
            ])
      ]

  section-short : AreSmall bodies → (i : ℕ) → i < section_count file → is_too_long new Wide i ≡ false
  section-short few i lt =
      rw (same.names i lt) (shorter (is_debug_name (name_of file i)) (debug_limit Wide) (body_span file i).len (body_span new i).len (span-small few i lt) (read.sound.sections i lt).short)

  section_sound : AreSmall bodies → (i : ℕ) → i < section_count file → IsSectionSound new Wide i
  section_sound few i lt = record {
    apart = section-apart i lt;
    plain = section-plain i lt;
    resolved = section-resolved i lt;
    placed = section-placed i lt;
    short = section-short few i lt;
    aligned = section-aligned i lt;
  }

  whole : IsWhole new
  whole = record {
    section_table = section_table file new read some same.loaded same.headers;
    segment_table = segment_table file new read some same.loaded same.headers;
    segments = segments file new read some same.loaded same.headers;
    sections = λ i lt. sections-inside i (omega (arith, same.headers.count));
    named = λ i lt. named i (omega (arith, same.headers.count));
  }

  sound : AreSmall bodies → movable_bytes new (section_count new) ≤ 2 ^ 35 → IsSound new Wide
  sound few light = record {
    apart = segments-apart file new read some same.loaded same.headers;
    sections = λ i lt. section_sound few i (omega (arith, same.headers.count));
    known = λ i lt. known i (omega (arith, same.headers.count));
    distinct = distinct;
    movable = light;
  }

  -- where the old file is within the narrow limits and the new bodies have few bytes, the new file is within the wide ones
  pub IsRead-again : IsRead file Narrow → AreSmall bodies → IsRead new Wide
  IsRead-again narrow few =
      let count = section_count file in
      let fixed = (fixed_end-within file read some).1 in
      let light : movable_bytes file count ≤ 2 ^ 30 = narrow.sound.movable in
      let low : length file ≤ 2 ^ 30 = narrow.small.bytes in
      let near : (i : ℕ) → i < count → IsTrue (is_movable file i) → align_of new i ≤ 4096 = λ i lt moves. omega (arith, align-kept file new same.headers i lt, aligned file read some i lt moves) in
      record {
        elf = elf file new read some same.loaded same.headers;
        linked = linked file new read some same.loaded same.headers;
        small = small file new read some same.loaded same.headers (length-new file new bodies placed.laid_out near same.headers.count read.small.sections (omega arith) light few.all);
        whole = whole;
        sound = sound few (movable-new file new bodies placed.laid_out same.headers.count placed.movable light few.all);
      }
