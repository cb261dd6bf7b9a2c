-- An ELF-64 file, as the System V ABI has it: its header, its two tables, and the bytes that these name.
-- Each field is a number at a place. Of the two tables a segment's header has 56 bytes, a section's 64.
use Rattle.std.specs.Prelude.{◌≡◌, ◌≤◌, ◌+◌, ◌*◌, ℕ, zero, suc, max, List, [], ◌∷◌, length, slice_range, Bool, ◌==◌, ◌&&◌, not, if◌then◌else◌, nat_le, bit_and}
use Rattle.dw_base.specs.declared.fault.Span.{Span}
use Rattle.elf_sections.specs.Numbers.{number_at}

-- The file's header. Its fields keep the ABI's names in the comments.

-- e_type
abbrev pub file_type : List ℕ → ℕ
file_type = number_at 2 16

-- e_phoff, where the table of the segments begins
abbrev pub segments_at : List ℕ → ℕ
segments_at = number_at 8 32

-- e_shoff, where the table of the sections begins
abbrev pub sections_at : List ℕ → ℕ
sections_at = number_at 8 40

-- e_phentsize
abbrev pub segment_size : List ℕ → ℕ
segment_size = number_at 2 54

-- e_phnum
abbrev pub segment_count : List ℕ → ℕ
segment_count = number_at 2 56

-- e_shentsize
abbrev pub section_size : List ℕ → ℕ
section_size = number_at 2 58

-- e_shnum
abbrev pub section_count : List ℕ → ℕ
section_count = number_at 2 60

-- e_shstrndx, the number of the section that holds the names; 0 where none does
abbrev pub names_index : List ℕ → ℕ
names_index = number_at 2 62

-- the bytes begin as those of an ELF-64 file of low-first numbers do
abbrev pub IsElf64 : List ℕ → Type 0
IsElf64 file = (64 ≤ length file) × (slice_range file 0 7 ≡ 127 ∷ 69 ∷ 76 ∷ 70 ∷ 2 ∷ 1 ∷ 1 ∷ [])

-- the file has no sections
abbrev pub has_no_sections : List ℕ → Bool
has_no_sections file = (section_count file == 0) && (sections_at file == 0)

-- Where the header of a segment or a section stands. The header of the number after the last is the table's end.
abbrev pub segment_at : List ℕ → ℕ → ℕ
segment_at file i = segments_at file + 56 * i

abbrev pub header_at : List ℕ → ℕ → ℕ
header_at file i = sections_at file + 64 * i

-- The fields of a section's header.

-- sh_name, which counts from the first byte of the section that holds the names
abbrev pub name_offset : List ℕ → ℕ → ℕ
name_offset file i = number_at 4 (header_at file i) file

-- sh_type
abbrev pub kind_of : List ℕ → ℕ → ℕ
kind_of file i = number_at 4 (header_at file i + 4) file

-- sh_flags
abbrev pub flags_of : List ℕ → ℕ → ℕ
flags_of file i = number_at 8 (header_at file i + 8) file

-- sh_offset
abbrev pub offset_of : List ℕ → ℕ → ℕ
offset_of file i = number_at 8 (header_at file i + 24) file

-- sh_size
abbrev pub size_of : List ℕ → ℕ → ℕ
size_of file i = number_at 8 (header_at file i + 32) file

-- sh_link
abbrev pub link_of : List ℕ → ℕ → ℕ
link_of file i = number_at 4 (header_at file i + 40) file

-- sh_info
abbrev pub info_of : List ℕ → ℕ → ℕ
info_of file i = number_at 4 (header_at file i + 44) file

-- sh_addralign
abbrev pub align_of : List ℕ → ℕ → ℕ
align_of file i = number_at 8 (header_at file i + 48) file

-- the 64 bytes of a section's header
abbrev pub header_of : List ℕ → ℕ → List ℕ
header_of file i = slice_range file (header_at file i) (header_at file i + 64)

-- the section holds bytes of the file: its type is neither SHT_NULL nor SHT_NOBITS
abbrev pub has_bytes : List ℕ → ℕ → Bool
has_bytes file i = not (kind_of file i == 0) && not (kind_of file i == 8)

-- the section has the flag SHF_ALLOC
abbrev pub is_loaded : List ℕ → ℕ → Bool
is_loaded file i = not (bit_and (flags_of file i) 2 == 0)

-- the span of a section's bytes, which is empty where it holds none
abbrev pub body_span : List ℕ → ℕ → Span
body_span file i =
    if has_bytes file i then record { at = offset_of file i; len = size_of file i } else record { at = 0; len = 0 }

-- the bytes of a section
abbrev pub body_of : List ℕ → ℕ → List ℕ
body_of file i = slice_range file (body_span file i).at ((body_span file i).at + (body_span file i).len)

-- where a section's bytes end, or 0 where it holds none
abbrev pub section_end : List ℕ → ℕ → ℕ
section_end file i = if has_bytes file i then offset_of file i + size_of file i else 0

-- where a segment's bytes end: p_offset and p_filesz
abbrev pub segment_end : List ℕ → ℕ → ℕ
segment_end file i = number_at 8 (segment_at file i + 8) file + number_at 8 (segment_at file i + 32) file

-- the greatest of the first n values of a function
abbrev pub greatest : (ℕ → ℕ) → ℕ → ℕ
greatest f zero = 0
greatest f (suc n) = max (greatest f n) (f n)

-- where the table of the segments ends, or 0 where there are none
abbrev pub segments_end : List ℕ → ℕ
segments_end file = if segment_count file == 0 then 0 else segment_at file (segment_count file)

-- where a loaded section ends, or 0 where it isn't loaded
abbrev pub loaded_end : List ℕ → ℕ → ℕ
loaded_end file i = if is_loaded file i then section_end file i else 0

-- The fixed end: nothing below it may move. It is the greatest end of the file's header, the table of the segments,
-- the segments and the loaded sections. A file without sections is fixed as a whole.
abbrev pub fixed_end_of : List ℕ → ℕ
fixed_end_of file =
    if has_no_sections file then length file else
    max (max 64 (segments_end file)) (max (greatest (segment_end file) (segment_count file)) (greatest (loaded_end file) (section_count file)))

-- the section may move: it holds bytes, isn't loaded, and begins at the fixed end or after it
abbrev pub is_movable : List ℕ → ℕ → Bool
is_movable file i = has_bytes file i && not (is_loaded file i) && nat_le (fixed_end_of file) (offset_of file i)
