-- Sections that aren't loaded in a file without segments, and what makes them sound.
use Rattle.std.proofs.Common.{◌≡◌, ◌≤◌, ◌<◌, ◌+◌, ◌*◌, ◌^◌, inl, inr, ◌⊎◌, ℕ, zero, suc, max, min, List, length, Bool, true, false, ◌==◌, ◌&&◌, ◌||◌, not, if◌then◌else◌, ◌∙◌, sym, ap, refl, arith}
use Rattle.std.specs.Prelude.{nat_lt, nat_le, bit_and}
use Rattle.std.proofs.lemmas.Bool.{le-ltb, le-leb}
use Rattle.dw_base.specs.declared.fault.Span.{Span}
use Rattle.dw_base.specs.declared.fault.Reach.TheVariants.{Narrow}
use Rattle.elf_sections.specs.Elf.{section_count, segment_count, sections_at, segment_at, segments_end, segment_end, section_end, names_index, flags_of, offset_of, size_of, align_of, info_of, has_bytes, has_no_sections, is_loaded, loaded_end, is_movable, body_span, greatest, fixed_end_of}
use Rattle.elf_sections.specs.Names.{name_of, is_debug_name, is_zdebug_name, is_written}
use Rattle.elf_sections.specs.Faults.{holds_e_shoff, movable_bytes, IsSectionSound}
use Rattle.elf_sections.specs.Headers.{SectionHeader, HasSectionHeader}
use Rattle.elf_sections.proofs.FixedEnd.{greatest-within}

-- nothing of the file is fixed but its header
pub fixed_end : (file : List ℕ) → section_count file ≡ 8 → segment_count file ≡ 0 → ((i : ℕ) → i < section_count file → flags_of file i ≡ 0) → fixed_end_of file ≡ 64
fixed_end file sections segments flags =
    let some : has_no_sections file ≡ false = ap (λ (n : ℕ). (n == 0) && (sections_at file == 0)) sections in
    let table : segments_end file ≡ 0 = ap (λ (n : ℕ). if n == 0 then 0 else segment_at file n) segments in
    let ends : greatest (segment_end file) (segment_count file) ≡ 0 = ap (λ (n : ℕ). greatest (segment_end file) n) segments in
    let each : (i : ℕ) → i < section_count file → loaded_end file i ≤ 0 = λ i inside. let none : loaded_end file i ≡ 0 = ap (λ (n : ℕ). if not (bit_and n 2 == 0) then section_end file i else 0) (flags i inside) in omega (arith, none) in
    let loaded : greatest (loaded_end file) (section_count file) ≤ 0 = greatest-within (loaded_end file) 0 (section_count file) each in
    let most : max (max 64 (segments_end file)) (max (greatest (segment_end file) (segment_count file)) (greatest (loaded_end file) (section_count file))) ≡ 64 = omega (arith, table, ends, loaded) in
    ap (λ (b : Bool). if b then length file else max (max 64 (segments_end file)) (max (greatest (segment_end file) (segment_count file)) (greatest (loaded_end file) (section_count file)))) some ∙ most

-- TESTS BY THEIR PARTS

overlaps : (b : Bool) (fixed at end : ℕ) → fixed ≡ 64 → (b ≡ true → 64 ≤ at) → (b && ((nat_lt at fixed && nat_lt fixed end) || holds_e_shoff at end)) ≡ false
overlaps false fixed at end is behind = refl
overlaps true fixed at end is behind =
    let far : 64 ≤ at = behind refl in
    let one : nat_lt at fixed ≡ false = le-ltb at fixed (omega (arith, is, far)) in
    let two : nat_lt (max at 40) (min end 48) ≡ false = le-ltb (max at 40) (min end 48) (omega (arith, far)) in
    rw (one, two) refl

never : (b : Bool) → (b && false) ≡ false
never true = refl
never false = refl

moves : (b loaded : Bool) (fixed at : ℕ) → b ≡ true → loaded ≡ false → fixed ≤ at → (b && not loaded && nat_le fixed at) ≡ true
moves b loaded fixed at bytes free behind = rw (bytes, free, le-leb fixed at behind) refl

misplaces : (written movable own : Bool) → (written ≡ false) ⊎ ((movable ≡ true) × (own ≡ false)) → (written && (not movable || own)) ≡ false
misplaces written movable own (inl fails) = rw fails refl
misplaces written movable own (inr (moved, other)) = rw (moved, other) (never written)

compresses : (debug z : Bool) (flags : ℕ) → flags ≡ 0 → z ≡ false → ((debug && not (bit_and flags 0x800 == 0)) || z) ≡ false
compresses debug z flags none old = rw (none, never debug) old

span_small : (b : Bool) (at len most : ℕ) → len ≤ most → (if◌then◌else◌ {A = Span} b (record { at = at; len = len }) (record { at = 0; len = 0 })).len ≤ most
span_small true at len most small = small
span_small false at len most small = omega arith

end_small : (b : Bool) (end most : ℕ) → (b ≡ true → end ≤ most) → (if b then end else 0) ≤ most
end_small true end most small = small refl
end_small false end most small = omega arith

part_small : (b : Bool) (size most : ℕ) → size ≤ most → (if b then size else 0) ≤ most
part_small true size most small = small
part_small false size most small = omega arith

-- A SECTION

-- A section with a name, a number and a header may stand in a file of so many bytes, whether or not it has bytes.
pub record IsUsual (len i : ℕ) (name : List ℕ) (h : SectionHeader) (bytes : Bool) : Type 0 where
  pub holds : (not (h.sh_type == 0) && not (h.sh_type == 8)) ≡ bytes
  pub relocates : ((h.sh_type == 4) || (h.sh_type == 9)) ≡ false
  pub flags : h.sh_flags ≡ 0
  pub behind : bytes ≡ true → 64 ≤ h.sh_offset
  pub inside : bytes ≡ true → h.sh_offset + h.sh_size ≤ len
  pub short : h.sh_size ≤ 2 ^ 27
  pub aligned : h.sh_addralign ≤ 4096
  pub current : is_zdebug_name name ≡ false
  pub placed : (is_written name ≡ false) ⊎ ((bytes ≡ true) × ((i == 7) ≡ false))

module _ (file : List ℕ) (i : ℕ) (name : List ℕ) (h : SectionHeader) (bytes : Bool) (fixed : fixed_end_of file ≡ 64) (names : names_index file ≡ 7) (named : name_of file i ≡ name) (has : HasSectionHeader file i h) (usual : IsUsual (length file) i name h bytes) where
  holds : has_bytes file i ≡ bytes
  holds = ap (λ (k : ℕ). not (k == 0) && not (k == 8)) has.kind_is ∙ usual.holds

  flags : flags_of file i ≡ 0
  flags = has.flags_are ∙ usual.flags

  free : is_loaded file i ≡ false
  free = ap (λ (n : ℕ). not (bit_and n 2 == 0)) flags

  behind : has_bytes file i ≡ true → 64 ≤ offset_of file i
  behind e = let far : 64 ≤ h.sh_offset = usual.behind (sym holds ∙ e) in omega (arith, has.offset_is, far)

  short : size_of file i ≤ 2 ^ 27
  short = omega (arith, has.size_is, usual.short)

  movable : bytes ≡ true → is_movable file i ≡ true
  movable e = moves (has_bytes file i) (is_loaded file i) (fixed_end_of file) (offset_of file i) (holds ∙ e) free (omega (arith, fixed, behind (holds ∙ e)))

  placed_by : (is_written name ≡ false) ⊎ ((bytes ≡ true) × ((i == 7) ≡ false)) → (is_written (name_of file i) ≡ false) ⊎ ((is_movable file i ≡ true) × ((i == names_index file) ≡ false))
  placed_by (inl fails) = inl (ap is_written named ∙ fails)
  placed_by (inr (kept, other)) = inr (movable kept, ap (λ (k : ℕ). i == k) names ∙ other)

  pub section_sound : IsSectionSound file Narrow i
  section_sound = record {
    apart = overlaps (has_bytes file i) (fixed_end_of file) (offset_of file i) (section_end file i) fixed behind;
    plain = compresses (is_debug_name (name_of file i)) (is_zdebug_name (name_of file i)) (flags_of file i) flags (ap is_zdebug_name named ∙ usual.current);
    resolved = ap (λ (b : Bool). b && (nat_lt (info_of file i) (section_count file) && is_debug_name (name_of file (info_of file i)))) (ap (λ (k : ℕ). (k == 4) || (k == 9)) has.kind_is ∙ usual.relocates);
    placed = misplaces (is_written (name_of file i)) (is_movable file i) (i == names_index file) (placed_by usual.placed);
    short = ap (λ (b : Bool). is_debug_name (name_of file i) && b) (le-ltb (2 ^ 28) (body_span file i).len (span_small (has_bytes file i) (offset_of file i) (size_of file i) (2 ^ 28) (omega (arith, short)))) ∙ never (is_debug_name (name_of file i));
    aligned = ap (λ (b : Bool). is_movable file i && b) (le-ltb 4096 (align_of file i) (omega (arith, has.align_is, usual.aligned))) ∙ never (is_movable file i);
  }

  pub section_inside : section_end file i ≤ length file
  section_inside = end_small (has_bytes file i) (offset_of file i + size_of file i) (length file) (λ e. let within : h.sh_offset + h.sh_size ≤ length file = usual.inside (sym holds ∙ e) in omega (arith, has.offset_is, has.size_is, within))

  pub section_short : size_of file i ≤ 2 ^ 27
  section_short = short

-- ALL SECTIONS

pub movable_small : (file : List ℕ) (most n : ℕ) → ((k : ℕ) → k < n → size_of file k ≤ most) → movable_bytes file n ≤ n * most
movable_small file most zero small = omega arith
movable_small file most (suc n) small =
    let before : movable_bytes file n ≤ n * most = movable_small file most n (λ k below. small k (omega arith)) in
    let last : (if is_movable file n then size_of file n else 0) ≤ most = part_small (is_movable file n) (size_of file n) most (small n (omega arith)) in
    omega (arith, before, last)

-- what is so of each number below 8
pub eight : (P : ℕ → Type 0) → P 0 → P 1 → P 2 → P 3 → P 4 → P 5 → P 6 → P 7 → (i : ℕ) → i < 8 → P i
eight P a b c d e f g h zero below = a
eight P a b c d e f g h (suc zero) below = b
eight P a b c d e f g h (suc (suc zero)) below = c
eight P a b c d e f g h (suc (suc (suc zero))) below = d
eight P a b c d e f g h (suc (suc (suc (suc zero)))) below = e
eight P a b c d e f g h (suc (suc (suc (suc (suc zero))))) below = f
eight P a b c d e f g h (suc (suc (suc (suc (suc (suc zero)))))) below = g
eight P a b c d e f g h (suc (suc (suc (suc (suc (suc (suc zero))))))) below = h
eight P a b c d e f g h (suc (suc (suc (suc (suc (suc (suc (suc i)))))))) below = absurd (omega arith)
