-- The bytes of the ELF-64 file around the sections (System V ABI).
use Rattle.std.specs.Prelude.{◌+◌, ◌-◌, ◌%◌, ℕ, List, [], ◌∷◌, ◌++◌, length, replicate, codes}
use Rattle.std.specs.List.{sum_by}
use Rattle.sample_maker.specs.declared.elf.Row.{Row}
use Rattle.sample_maker.specs.inside.Bytes.{word, long, part_bytes}

-- THE ABBREVIATION TABLE (DWARF 5 section 7.5.3): a code, a tag, whether there are children, and pairs of an attribute and a form

abbrev pub unit_declaration : List ℕ
unit_declaration = 1 ∷ 0x11 ∷ 1 ∷ 0x25 ∷ 0x0e ∷ 0x13 ∷ 0x0b ∷ 0x03 ∷ 0x1f ∷ 0x1b ∷ 0x1f ∷ 0x11 ∷ 0x01 ∷ 0x12 ∷ 0x07 ∷ 0x10 ∷ 0x17 ∷ 0 ∷ 0 ∷ []

abbrev pub function_declaration : List ℕ
function_declaration = 2 ∷ 0x2e ∷ 1 ∷ 0x3f ∷ 0x19 ∷ 0x03 ∷ 0x08 ∷ 0x3a ∷ 0x21 ∷ 1 ∷ 0x3b ∷ 0x0b ∷ 0x49 ∷ 0x13 ∷ 0x11 ∷ 0x01 ∷ 0x12 ∷ 0x07 ∷ 0x40 ∷ 0x18 ∷ 0x01 ∷ 0x13 ∷ 0 ∷ 0 ∷ []

abbrev pub parameter_declaration : List ℕ
parameter_declaration = 3 ∷ 0x05 ∷ 0 ∷ 0x03 ∷ 0x08 ∷ 0x3b ∷ 0x0b ∷ 0x49 ∷ 0x13 ∷ 0x02 ∷ 0x17 ∷ 0xb7 ∷ 0x42 ∷ 0x17 ∷ 0 ∷ 0 ∷ []

abbrev pub base_type_declaration : List ℕ
base_type_declaration = 4 ∷ 0x24 ∷ 0 ∷ 0x0b ∷ 0x0b ∷ 0x3e ∷ 0x0b ∷ 0x03 ∷ 0x08 ∷ 0 ∷ 0 ∷ []

abbrev pub block_declaration : List ℕ
block_declaration = 5 ∷ 0x0b ∷ 0 ∷ 0x55 ∷ 0x17 ∷ 0 ∷ 0 ∷ []

unfoldable pub table_bytes : List ℕ
table_bytes = unit_declaration ++ (function_declaration ++ (parameter_declaration ++ (base_type_declaration ++ (block_declaration ++ 0 ∷ []))))

-- THE SECTIONS

-- the names, each with a byte 0 behind it
unfoldable pub names_bytes : List ℕ
names_bytes = 0 ∷ (codes ".debug_info" ++ 0 ∷ (codes ".debug_abbrev" ++ 0 ∷ (codes ".debug_line" ++ 0 ∷ (codes ".debug_rnglists" ++ 0 ∷ (codes ".debug_loclists" ++ 0 ∷ (codes ".debug_aranges" ++ 0 ∷ (codes ".shstrtab" ++ 0 ∷ [])))))))

-- a debug section: the place of its name among the names, and its bytes
abbrev pub debug_row : ℕ → ℕ → Row
debug_row name size = record { name = name; kind = 1; size = size }

-- the sections behind section 0, where those of lists have so many bytes without the header of their contribution
abbrev pub rows_for : List ℕ → List ℕ → List ℕ → List ℕ → List ℕ → List Row
rows_for info lines ranges locations aranges =
    debug_row 1 (length info) ∷ debug_row 13 78 ∷ debug_row 27 (length lines) ∷ debug_row 39 (12 + length ranges) ∷ debug_row 55 (12 + length locations) ∷ debug_row 71 (length aranges) ∷ record { name = 86; kind = 3; size = 96 } ∷ []

-- how many bytes sections have together
abbrev pub sizes_of : List Row → ℕ
sizes_of rows = sum_by (λ (row : Row). row.size) rows

-- their bodies
abbrev pub bodies_bytes : List ℕ → List ℕ → List ℕ → List ℕ → List ℕ → List ℕ
bodies_bytes info lines ranges locations aranges = info ++ (table_bytes ++ (lines ++ (part_bytes ranges ++ (part_bytes locations ++ (aranges ++ names_bytes)))))

-- THE HEADERS

-- the header of a section that begins at a place
unfoldable pub section_header_bytes : Row → ℕ → List ℕ
section_header_bytes row at = word row.name ++ (word row.kind ++ (long 0 ++ (long 0 ++ (long at ++ (long row.size ++ (word 0 ++ (word 0 ++ (long 1 ++ long 0))))))))

-- of sections one after the other, of which the first begins at a place
abbrev pub section_headers_bytes : ℕ → List Row → List ℕ
section_headers_bytes at [] = []
section_headers_bytes at (row ∷ rows) = section_header_bytes row at ++ section_headers_bytes (at + row.size) rows

unfoldable pub no_section : List ℕ
no_section = replicate 64 0

abbrev pub file_header_start : List ℕ
file_header_start = 0x7f ∷ 0x45 ∷ 0x4c ∷ 0x46 ∷ 2 ∷ 1 ∷ 1 ∷ 0 ∷ 0 ∷ 0 ∷ 0 ∷ 0 ∷ 0 ∷ 0 ∷ 0 ∷ 0 ∷ 2 ∷ 0 ∷ 62 ∷ 0 ∷ 1 ∷ 0 ∷ 0 ∷ 0 ∷ 0 ∷ 0 ∷ 0 ∷ 0 ∷ 0 ∷ 0 ∷ 0 ∷ 0 ∷ 0 ∷ 0 ∷ 0 ∷ 0 ∷ 0 ∷ 0 ∷ 0 ∷ 0 ∷ []

abbrev pub file_header_end : List ℕ
file_header_end = 0 ∷ 0 ∷ 0 ∷ 0 ∷ 64 ∷ 0 ∷ 0 ∷ 0 ∷ 0 ∷ 0 ∷ 64 ∷ 0 ∷ 8 ∷ 0 ∷ 7 ∷ 0 ∷ []

-- with the place of the section headers
unfoldable pub file_header_bytes : ℕ → List ℕ
file_header_bytes table = file_header_start ++ (long table ++ file_header_end)

-- THE FILE

-- where the last section ends, and the bytes from there up to the section headers, which begin at a multiple of 8
abbrev pub end_of : List Row → ℕ
end_of rows = 64 + sizes_of rows

abbrev pub gap_of : List Row → ℕ
gap_of rows = (8 - end_of rows % 8) % 8

abbrev pub image_with : List Row → List ℕ → List ℕ
image_with rows bodies = file_header_bytes (end_of rows + gap_of rows) ++ (bodies ++ (replicate (gap_of rows) 0 ++ (no_section ++ section_headers_bytes 64 rows)))

abbrev pub image_bytes : List ℕ → List ℕ → List ℕ → List ℕ → List ℕ → List ℕ
image_bytes info lines ranges locations aranges = image_with (rows_for info lines ranges locations aranges) (bodies_bytes info lines ranges locations aranges)
