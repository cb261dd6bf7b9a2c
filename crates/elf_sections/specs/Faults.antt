-- The faults of a file that its ELF header, its tables and the names of its sections show. They are looked for in two
-- passes, of which the first that has a fault decides. Each fault stands at a place, an offset in the file.
use Rattle.std.specs.Prelude.{◌≡◌, ◌≢◌, ◌≤◌, ◌<◌, ◌+◌, ◌-◌, ◌^◌, ◌⊎◌, ℕ, zero, suc, max, min, List, length, Bool, true, false, ◌==◌, ◌||◌, ◌&&◌, not, if◌then◌else◌, nat_lt, bit_and, bytes_eq, codes}
use Rattle.dw_base.specs.declared.fault.Kind.{Kind}
use Rattle.dw_base.specs.declared.fault.Kind.TheVariants.{NotElf64, FileType, Torn, Overlap, Compressed, Relocated, TwoSections, Placed, Companion, Limit}
use Rattle.dw_base.specs.declared.fault.Reach.{Reach}
use Rattle.dw_base.specs.declared.fault.Reach.TheVariants.{Narrow, Wide}
use Rattle.dw_base.specs.declared.fault.Refusal.{Refusal}
use Rattle.dw_base.specs.Refusals.{IsRefusedFor}
use Rattle.elf_sections.specs.Elf.{IsElf64, file_type, section_count, section_size, segment_count, segment_size, segments_at, sections_at, names_index, segment_at, header_at, segment_end, section_end, segments_end, offset_of, size_of, kind_of, flags_of, info_of, align_of, has_bytes, body_span, fixed_end_of, is_movable}
use Rattle.elf_sections.specs.Names.{name_of, IsNamed, is_debug_name, is_zdebug_name, is_written, is_listed}

-- LIMITS

-- bytes of the file
abbrev pub file_limit : Reach → ℕ
file_limit Narrow = 2 ^ 30
file_limit Wide = 2 ^ 35

-- bytes of each section with a debug name
abbrev pub debug_limit : Reach → ℕ
debug_limit Narrow = 2 ^ 28
debug_limit Wide = 2 ^ 32 - 1

-- bytes of all movable sections together
abbrev pub movable_limit : Reach → ℕ
movable_limit Narrow = 2 ^ 30
movable_limit Wide = 2 ^ 35

-- bytes of those movable sections that are among the first n sections
abbrev pub movable_bytes : List ℕ → ℕ → ℕ
movable_bytes file zero = 0
movable_bytes file (suc n) = movable_bytes file n + (if is_movable file n then size_of file n else 0)

-- TESTS OF ONE SECTION

-- the bytes from one place up to another hold one of the bytes 40 to 47, the field e_shoff
abbrev pub holds_e_shoff : ℕ → ℕ → Bool
holds_e_shoff from to = nat_lt (max from 40) (min to 48)

-- the section holds bytes; these begin below the fixed end and end past it, or hold a byte of e_shoff
abbrev pub is_overlapping : List ℕ → ℕ → Bool
is_overlapping file i =
    has_bytes file i && ((nat_lt (offset_of file i) (fixed_end_of file) && nat_lt (fixed_end_of file) (section_end file i)) || holds_e_shoff (offset_of file i) (section_end file i))

-- the section has a debug name and SHF_COMPRESSED, or the old name of a compressed one
abbrev pub is_compressed : List ℕ → ℕ → Bool
is_compressed file i =
    (is_debug_name (name_of file i) && not (bit_and (flags_of file i) 0x800 == 0)) || is_zdebug_name (name_of file i)

-- the section is of the type SHT_RELA or SHT_REL, and its sh_info is the number of a section with a debug name
abbrev pub is_debug_relocation : List ℕ → ℕ → Bool
is_debug_relocation file i =
    (kind_of file i == 4 || kind_of file i == 9) && (nat_lt (info_of file i) (section_count file) && is_debug_name (name_of file (info_of file i)))

-- the section is to be written, and isn't movable or holds the names
abbrev pub is_misplaced : List ℕ → ℕ → Bool
is_misplaced file i = is_written (name_of file i) && (not (is_movable file i) || i == names_index file)

-- the section is an index that goes with debug sections, or has a debug name that isn't known
abbrev pub is_companion : List ℕ → ℕ → Bool
is_companion file i =
    bytes_eq (name_of file i) (codes ".gdb_index") || (is_debug_name (name_of file i) && not (is_listed (name_of file i)))

-- the section has a debug name and too many bytes
abbrev pub is_too_long : List ℕ → Reach → ℕ → Bool
is_too_long file reach i = is_debug_name (name_of file i) && nat_lt (debug_limit reach) (body_span file i).len

-- the section is movable, and its alignment is too large
abbrev pub is_overaligned : List ℕ → ℕ → Bool
is_overaligned file i = is_movable file i && nat_lt 4096 (align_of file i)

-- FAULTS

-- with headers of that kind present, the file's header gives them another size
abbrev pub HasOtherSizes : List ℕ → Type 0
HasOtherSizes file =
    ((section_count file ≢ 0) × (section_size file ≢ 64)) ⊎ ((segment_count file ≢ 0) × (segment_size file ≢ 56))

-- with headers of that kind present, their table leaves the file
abbrev pub TableLeaves : List ℕ → Type 0
TableLeaves file =
    ((section_count file ≢ 0) × (length file < header_at file (section_count file))) ⊎ ((segment_count file ≢ 0) × (length file < segment_at file (segment_count file)))

-- the file's header names a section that isn't there as the one that holds the names
abbrev pub NamesLackTheirSection : List ℕ → Type 0
NamesLackTheirSection file = (names_index file ≢ 0) × (section_count file ≤ names_index file)

-- the file's header says what can't be
abbrev pub IsHeaderTorn : List ℕ → Type 0
IsHeaderTorn file = HasOtherSizes file ⊎ (TableLeaves file ⊎ NamesLackTheirSection file)

-- a segment, or a section, has this number, and its header lies in the file
abbrev pub HasSegment : List ℕ → ℕ → Type 0
HasSegment file i = (i < segment_count file) × (segment_at file (suc i) ≤ length file)

abbrev pub HasSection : List ℕ → ℕ → Type 0
HasSection file i = (i < section_count file) × (header_at file (suc i) ≤ length file)

-- the bytes of a segment leave the file
abbrev pub SegmentLeaves : List ℕ → ℕ → Type 0
SegmentLeaves file i = length file < segment_end file i

-- the bytes of a section that holds any leave the file
abbrev pub SectionLeaves : List ℕ → ℕ → Type 0
SectionLeaves file i = length file < section_end file i

-- the name of a section, with its zero byte, leaves the section that holds the names
abbrev pub NameLeaves : List ℕ → ℕ → Type 0
NameLeaves file i = ¬ IsNamed file i

-- a thing leaves the file; the place is the first byte of the header that says so
abbrev pub IsTorn : List ℕ → ℕ → Type 0
IsTorn file place =
    ((place ≡ 0) × IsHeaderTorn file) ⊎ (((i : ℕ) × HasSegment file i × (place ≡ segment_at file i) × SegmentLeaves file i) ⊎ ((i : ℕ) × HasSection file i × (place ≡ header_at file i) × (SectionLeaves file i ⊎ NameLeaves file i)))

-- a section that passes the test begins at the place
abbrev pub SomeSection : List ℕ → (ℕ → Bool) → ℕ → Type 0
SomeSection file test place = (i : ℕ) × HasSection file i × (place ≡ offset_of file i) × (test i ≡ true)

-- the table of the segments, where there is one, holds a byte of e_shoff
abbrev pub DoSegmentsOverlap : List ℕ → Type 0
DoSegmentsOverlap file = (segment_count file ≢ 0) × (holds_e_shoff (segments_at file) (segments_end file) ≡ true)

-- the place is that of a section or of the table of the segments
abbrev pub IsOverlap : List ℕ → ℕ → Type 0
IsOverlap file place = ((place ≡ segments_at file) × DoSegmentsOverlap file) ⊎ SomeSection file (is_overlapping file) place

-- two sections have the same debug name; the place is the later one's
abbrev pub IsSecondOfName : List ℕ → ℕ → Type 0
IsSecondOfName file place =
    (i j : ℕ) × (i < j) × HasSection file j × (place ≡ offset_of file j) × (is_debug_name (name_of file j) ≡ true) × (name_of file i ≡ name_of file j)

-- a number of the file's header passes its limit, or counts what only section 0 could tell
abbrev pub IsHeaderTooLarge : List ℕ → Reach → Type 0
IsHeaderTooLarge file reach =
    (file_limit reach < length file) ⊎ ((65279 < section_count file) ⊎ ((65534 < segment_count file) ⊎ ((names_index file ≡ 65535) ⊎ ((section_count file ≡ 0) × (sections_at file ≢ 0)))))

-- with this section, in their order, the bytes of the movable sections pass their limit
abbrev pub PassesMovableLimit : List ℕ → Reach → ℕ → Type 0
PassesMovableLimit file reach i =
    (movable_bytes file i ≤ movable_limit reach) × (movable_limit reach < movable_bytes file (suc i))

-- a number passes its limit; the place is 0 for the file and its header, else the section's
abbrev pub IsLimit : List ℕ → Reach → ℕ → Type 0
IsLimit file reach place =
    ((place ≡ 0) × IsHeaderTooLarge file reach) ⊎ (SomeSection file (is_too_long file reach) place ⊎ (SomeSection file (is_overaligned file) place ⊎ ((i : ℕ) × HasSection file i × (place ≡ offset_of file i) × PassesMovableLimit file reach i)))

-- FIRST PASS: the ELF header, its tables, and the sections that these tell

-- an ELF-64 file has a fault of this kind at this place
abbrev pub ImageFault : List ℕ → Reach → Kind → ℕ → Type 0
ImageFault file reach FileType place = (place ≡ 16) × (file_type file ≢ 2) × (file_type file ≢ 3)
ImageFault file reach Torn place = IsTorn file place
ImageFault file reach Overlap place = IsOverlap file place
ImageFault file reach Compressed place = SomeSection file (is_compressed file) place
ImageFault file reach Relocated place = SomeSection file (is_debug_relocation file) place
ImageFault file reach TwoSections place = IsSecondOfName file place
ImageFault file reach Placed place = SomeSection file (is_misplaced file) place
ImageFault file reach Limit place = IsLimit file reach place
ImageFault file reach _ place = ⊥

-- A file past its limit of bytes has that fault whatever its first bytes hold. All else is said of ELF-64 files.
abbrev pub ElfFault : List ℕ → Reach → Kind → ℕ → Type 0
ElfFault file reach NotElf64 place = (place ≡ 0) × (¬ IsElf64 file)
ElfFault file reach Limit place = ((place ≡ 0) × (file_limit reach < length file)) ⊎ (IsElf64 file × ImageFault file reach Limit place)
ElfFault file reach kind place = IsElf64 file × ImageFault file reach kind place

-- SECOND PASS: the names of sections

-- a section goes with debug sections and isn't known
abbrev pub NameFault : List ℕ → Kind → ℕ → Type 0
NameFault file Companion place = IsElf64 file × SomeSection file (is_companion file) place
NameFault file _ place = ⊥

-- WHICH FAULT IS NAMED

abbrev pub HasNoElfFault : List ℕ → Reach → Type 0
HasNoElfFault file reach = (kind : Kind) (place : ℕ) → ElfFault file reach kind place → ⊥

abbrev pub HasNoNameFault : List ℕ → Type 0
HasNoNameFault file = (kind : Kind) (place : ℕ) → NameFault file kind place → ⊥

-- a fault of the first of the two passes that has one; of several in that pass each may be named
abbrev pub FirstFault : List ℕ → Reach → Kind → ℕ → Type 0
FirstFault file reach kind place =
    ElfFault file reach kind place ⊎ (HasNoElfFault file reach × NameFault file kind place)

-- a refusal names such a fault, or memory was wanting
abbrev pub NamesFirstFault : List ℕ → Reach → Refusal → Type 0
NamesFirstFault file reach = IsRefusedFor (λ fault. FirstFault file reach fault.kind fault.place)

-- FILES WITHOUT A FAULT

-- the table of the sections lies in the file, and has the one that holds the names
pub record HasSectionTable (file : List ℕ) : Type 0 where
  pub sizes : section_count file ≢ 0 → section_size file ≡ 64
  pub inside : section_count file ≢ 0 → header_at file (section_count file) ≤ length file
  pub names : names_index file ≢ 0 → names_index file < section_count file

-- the table of the segments lies in the file
pub record HasSegmentTable (file : List ℕ) : Type 0 where
  pub sizes : segment_count file ≢ 0 → segment_size file ≡ 56
  pub inside : segment_count file ≢ 0 → segment_at file (segment_count file) ≤ length file

-- the tables, the segments, the sections and their names lie in the file
pub record IsWhole (file : List ℕ) : Type 0 where
  pub section_table : HasSectionTable file
  pub segment_table : HasSegmentTable file
  pub segments : (i : ℕ) → i < segment_count file → segment_end file i ≤ length file
  pub sections : (i : ℕ) → i < section_count file → section_end file i ≤ length file
  pub named : (i : ℕ) → i < section_count file → IsNamed file i

-- the counts of the file's header are within their limits
pub record IsHeaderSmall (file : List ℕ) (reach : Reach) : Type 0 where
  pub bytes : length file ≤ file_limit reach
  pub sections : section_count file ≤ 65279
  pub segments : segment_count file ≤ 65534
  pub names : names_index file ≢ 65535
  pub none : section_count file ≡ 0 → sections_at file ≡ 0

-- a section that may stand in the file, if its name may
pub record IsSectionSound (file : List ℕ) (reach : Reach) (i : ℕ) : Type 0 where
  pub apart : is_overlapping file i ≡ false
  pub plain : is_compressed file i ≡ false
  pub resolved : is_debug_relocation file i ≡ false
  pub placed : is_misplaced file i ≡ false
  pub short : is_too_long file reach i ≡ false
  pub aligned : is_overaligned file i ≡ false

-- no two sections have the same debug name
abbrev pub HasDistinctNames : List ℕ → Type 0
HasDistinctNames file =
    (i j : ℕ) → i < j → j < section_count file → is_debug_name (name_of file j) ≡ true → name_of file i ≢ name_of file j

-- all sections are known
abbrev pub HasKnownSections : List ℕ → Type 0
HasKnownSections file = (i : ℕ) → i < section_count file → is_companion file i ≡ false

-- no section of the file has a fault of either pass
pub record IsSound (file : List ℕ) (reach : Reach) : Type 0 where
  pub apart : ¬ DoSegmentsOverlap file
  pub sections : (i : ℕ) → i < section_count file → IsSectionSound file reach i
  pub known : HasKnownSections file
  pub distinct : HasDistinctNames file
  pub movable : movable_bytes file (section_count file) ≤ movable_limit reach

-- an ELF-64 file in which no fault of either pass stands
pub record IsRead (file : List ℕ) (reach : Reach) : Type 0 where
  pub elf : IsElf64 file
  pub linked : (file_type file ≡ 2) ⊎ (file_type file ≡ 3)
  pub small : IsHeaderSmall file reach
  pub whole : IsWhole file
  pub sound : IsSound file reach

-- A file that is read has no fault of either pass.
abbrev pub ImagesAreWhole : Type 0
ImagesAreWhole = (file : List ℕ) (reach : Reach) → IsRead file reach → HasNoElfFault file reach × HasNoNameFault file
