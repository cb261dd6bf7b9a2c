-- Where the parts of the generated file stand, and what is told of each of its sections.
use Rattle.std.proofs.Common.{◌≡◌, ◌≤◌, ◌<◌, ◌+◌, ◌*◌, ◌^◌, ℕ, suc, List, [], ◌∷◌, ◌++◌, length, get_or, slice_range, replicate, sym, ap, refl, subst, arith}
use Rattle.std.proofs.lemmas.List.{length-append, length-replicate}
use Rattle.elf_sections.specs.Elf.{IsElf64, header_at, name_offset, body_of}
use Rattle.elf_sections.specs.Names.{text_at, name_of}
use Rattle.elf_sections.specs.Headers.{HasFileHeader, HasSectionHeader}
use Rattle.sample_maker.specs.declared.elf.Row.{Row}
use Rattle.sample_maker.specs.inside.Bytes.{part_bytes}
use Rattle.sample_maker.specs.inside.Images.{table_bytes, names_bytes, rows_for, sizes_of, bodies_bytes, section_headers_bytes, section_header_bytes, no_section, file_header_bytes, end_of, gap_of, image_bytes}
use Rattle.sample_maker.specs.inside.ReadImage.{file_header, section_names, section_place, header_numbered}
use Rattle.sample_maker.proofs.Standing.{StandsAt, stands_whole, stands_first, stands_second}
use Rattle.sample_maker.proofs.FileHeaders.{header_read, header_length, header_start, IsRowSmall, section_read, no_section_length, no_section_read, behind_no_section, headers_follow}
use Rattle.sample_maker.proofs.SoundSections.{eight}
use Rattle.sample_maker.proofs.ImageSections.{table_length, names_length, part_length, headers_length, name_there, body_there}

module _ (info lines ranges locations aranges : List ℕ) where
  abbrev pub rows : List Row
  rows = rows_for info lines ranges locations aranges

  abbrev pub bodies : List ℕ
  bodies = bodies_bytes info lines ranges locations aranges

  -- where the section headers begin
  abbrev pub table : ℕ
  table = end_of rows + gap_of rows

  pub gap_small : gap_of rows < 8
  gap_small = omega arith

  pub bodies_length : length bodies ≡ sizes_of rows
  bodies_length =
      let all = length-append info (table_bytes ++ (lines ++ (part_bytes ranges ++ (part_bytes locations ++ (aranges ++ names_bytes))))) in
      let behind_info = length-append table_bytes (lines ++ (part_bytes ranges ++ (part_bytes locations ++ (aranges ++ names_bytes)))) in
      let behind_table = length-append lines (part_bytes ranges ++ (part_bytes locations ++ (aranges ++ names_bytes))) in
      let behind_lines = length-append (part_bytes ranges) (part_bytes locations ++ (aranges ++ names_bytes)) in
      let behind_ranges = length-append (part_bytes locations) (aranges ++ names_bytes) in
      omega (arith, all, behind_info, behind_table, behind_lines, behind_ranges, length-append aranges names_bytes, table_length, names_length, part_length ranges, part_length locations)

  module _ (file : List ℕ) (is : file ≡ image_bytes info lines ranges locations aranges) (small : sizes_of rows ≤ 2 ^ 27) where
    -- THE HEADER OF THE FILE

    abbrev headers : List ℕ
    headers = no_section ++ section_headers_bytes 64 rows

    abbrev behind_bodies : List ℕ
    behind_bodies = replicate (gap_of rows) 0 ++ headers

    pub header : HasFileHeader file (file_header table)
    header = subst (λ (z : List ℕ). HasFileHeader z (file_header table)) (sym is) (header_read table (bodies ++ behind_bodies) (omega (arith, small, gap_small)))

    pub file_length : length file ≡ table + 64 * 8
    file_length =
        omega (arith, ap (λ (z : List ℕ). length z) is, length-append (file_header_bytes table) (bodies ++ behind_bodies), header_length table, length-append bodies behind_bodies, bodies_length, length-append (replicate (gap_of rows) 0) headers, length-replicate {A = ℕ} (gap_of rows) 0, length-append no_section (section_headers_bytes 64 rows), no_section_length, headers_length 64 rows)

    pub elf : IsElf64 file
    elf = (omega (arith, file_length), subst (λ (z : List ℕ). slice_range z 0 7 ≡ 127 ∷ 69 ∷ 76 ∷ 70 ∷ 2 ∷ 1 ∷ 1 ∷ []) (sym is) (header_start table (bodies ++ behind_bodies)))

    -- WHERE THE PARTS STAND

    behind_header : StandsAt file 64 (bodies ++ behind_bodies)
    behind_header =
        let whole : StandsAt file 0 (file_header_bytes table ++ (bodies ++ behind_bodies)) = subst (λ (z : List ℕ). StandsAt file 0 z) is (stands_whole file) in
        stands_second file 0 64 64 (file_header_bytes table) (bodies ++ behind_bodies) (header_length table) (omega arith) whole

    headers_stand : StandsAt file table headers
    headers_stand =
        let gap : StandsAt file (end_of rows) behind_bodies = stands_second file 64 (sizes_of rows) (end_of rows) bodies behind_bodies bodies_length (omega arith) behind_header in
        stands_second file (end_of rows) (gap_of rows) table (replicate (gap_of rows) 0) headers (length-replicate {A = ℕ} (gap_of rows) 0) (omega arith) gap

    first_header : StandsAt file (header_at file 0) headers
    first_header = subst (λ (n : ℕ). StandsAt file n headers) (let e : table ≡ header_at file 0 = omega (arith, header.sections_are) in e) headers_stand

    -- THE HEADERS OF THE SECTIONS

    header_told : (k : ℕ) → k < 7 → IsRowSmall (get_or rows k (record { name = 0; kind = 0; size = 0 })) (section_place rows k) → HasSectionHeader file (suc k) (header_numbered rows (suc k))
    header_told k below few =
        let d : Row = record { name = 0; kind = 0; size = 0 } in
        let found = headers_follow file 1 64 rows k d (omega (arith, below)) (behind_no_section file (section_headers_bytes 64 rows) first_header) in
        let number : 1 + k ≡ suc k = omega arith in
        section_read file (suc k) (get_or rows k d) (section_place rows k) few (subst (λ (n : ℕ). StandsAt file (header_at file n) (section_header_bytes (get_or rows k d) (section_place rows k))) number found)

    pub section_told : (i : ℕ) → i < 8 → HasSectionHeader file i (header_numbered rows i)
    section_told = eight (λ i. HasSectionHeader file i (header_numbered rows i))
        (no_section_read file (section_headers_bytes 64 rows) first_header)
        (header_told 0 (omega arith) (record { name = omega arith; kind = omega arith; place = omega (arith, small); size = omega (arith, small) }))
        (header_told 1 (omega arith) (record { name = omega arith; kind = omega arith; place = omega (arith, small); size = omega (arith, small) }))
        (header_told 2 (omega arith) (record { name = omega arith; kind = omega arith; place = omega (arith, small); size = omega (arith, small) }))
        (header_told 3 (omega arith) (record { name = omega arith; kind = omega arith; place = omega (arith, small); size = omega (arith, small) }))
        (header_told 4 (omega arith) (record { name = omega arith; kind = omega arith; place = omega (arith, small); size = omega (arith, small) }))
        (header_told 5 (omega arith) (record { name = omega arith; kind = omega arith; place = omega (arith, small); size = omega (arith, small) }))
        (header_told 6 (omega arith) (record { name = omega arith; kind = omega arith; place = omega (arith, small); size = omega (arith, small) }))

    -- THE BODIES

    -- what follows each body
    abbrev names_left : List ℕ
    names_left = names_bytes

    abbrev aranges_left : List ℕ
    aranges_left = aranges ++ names_left

    abbrev locations_left : List ℕ
    locations_left = part_bytes locations ++ aranges_left

    abbrev ranges_left : List ℕ
    ranges_left = part_bytes ranges ++ locations_left

    abbrev lines_left : List ℕ
    lines_left = lines ++ ranges_left

    abbrev table_left : List ℕ
    table_left = table_bytes ++ lines_left

    info_from : StandsAt file (section_place rows 0) (info ++ table_left)
    info_from = stands_first file 64 bodies behind_bodies behind_header

    table_from : StandsAt file (section_place rows 1) table_left
    table_from = stands_second file (section_place rows 0) (length info) (section_place rows 1) info table_left refl (omega arith) info_from

    lines_from : StandsAt file (section_place rows 2) lines_left
    lines_from = stands_second file (section_place rows 1) 78 (section_place rows 2) table_bytes lines_left table_length (omega arith) table_from

    ranges_from : StandsAt file (section_place rows 3) ranges_left
    ranges_from = stands_second file (section_place rows 2) (length lines) (section_place rows 3) lines ranges_left refl (omega arith) lines_from

    locations_from : StandsAt file (section_place rows 4) locations_left
    locations_from = stands_second file (section_place rows 3) (12 + length ranges) (section_place rows 4) (part_bytes ranges) locations_left (part_length ranges) (omega arith) ranges_from

    aranges_from : StandsAt file (section_place rows 5) aranges_left
    aranges_from = stands_second file (section_place rows 4) (12 + length locations) (section_place rows 5) (part_bytes locations) aranges_left (part_length locations) (omega arith) locations_from

    names_from : StandsAt file (section_place rows 6) names_left
    names_from = stands_second file (section_place rows 5) (length aranges) (section_place rows 6) aranges names_left refl (omega arith) aranges_from

    pub info_body : body_of file 1 ≡ info
    info_body = body_there file 1 (header_numbered rows 1) info (section_told 1 (omega arith)) refl refl (stands_first file (section_place rows 0) info table_left info_from)

    pub table_body : body_of file 2 ≡ table_bytes
    table_body = body_there file 2 (header_numbered rows 2) table_bytes (section_told 2 (omega arith)) refl table_length (stands_first file (section_place rows 1) table_bytes lines_left table_from)

    pub lines_body : body_of file 3 ≡ lines
    lines_body = body_there file 3 (header_numbered rows 3) lines (section_told 3 (omega arith)) refl refl (stands_first file (section_place rows 2) lines ranges_left lines_from)

    pub ranges_body : body_of file 4 ≡ part_bytes ranges
    ranges_body = body_there file 4 (header_numbered rows 4) (part_bytes ranges) (section_told 4 (omega arith)) refl (part_length ranges) (stands_first file (section_place rows 3) (part_bytes ranges) locations_left ranges_from)

    pub locations_body : body_of file 5 ≡ part_bytes locations
    locations_body = body_there file 5 (header_numbered rows 5) (part_bytes locations) (section_told 5 (omega arith)) refl (part_length locations) (stands_first file (section_place rows 4) (part_bytes locations) aranges_left locations_from)

    pub aranges_body : body_of file 6 ≡ aranges
    aranges_body = body_there file 6 (header_numbered rows 6) aranges (section_told 6 (omega arith)) refl refl (stands_first file (section_place rows 5) aranges names_left aranges_from)

    pub names_body : body_of file 7 ≡ names_bytes
    names_body = body_there file 7 (header_numbered rows 7) names_bytes (section_told 7 (omega arith)) refl names_length names_from

    -- THE NAMES

    named_by : (i n : ℕ) → name_offset file i ≡ n → name_of file i ≡ text_at names_bytes n
    named_by i n place = name_there file i n header.names_are names_body place

    pub section_named_is : (i : ℕ) → i < 8 → name_of file i ≡ get_or section_names i []
    unfolding names_bytes
    section_named_is = eight (λ i. name_of file i ≡ get_or section_names i [])
        (named_by 0 0 (section_told 0 (omega arith)).name_is)
        (named_by 1 1 (section_told 1 (omega arith)).name_is)
        (named_by 2 13 (section_told 2 (omega arith)).name_is)
        (named_by 3 27 (section_told 3 (omega arith)).name_is)
        (named_by 4 39 (section_told 4 (omega arith)).name_is)
        (named_by 5 55 (section_told 5 (omega arith)).name_is)
        (named_by 6 71 (section_told 6 (omega arith)).name_is)
        (named_by 7 86 (section_told 7 (omega arith)).name_is)
