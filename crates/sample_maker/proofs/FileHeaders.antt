-- The headers of the file and of its sections are read as they were written.
use Rattle.std.proofs.Common.{◌≡◌, ◌<◌, ◌+◌, ◌^◌, ℕ, zero, suc, List, [], ◌∷◌, ◌++◌, length, get_or, take, slice_range, ◌∙◌, refl, subst, arith}
use Rattle.std.proofs.lemmas.List.Sums.{sum_by-cons}
use Rattle.elf_sections.specs.Elf.{header_at}
use Rattle.elf_sections.specs.Headers.{DoFit, spelled, file_fields, section_fields, HasFileHeader, HasSectionHeader}
use Rattle.elf_sections.proofs.HeaderLaws.{file_headers, section_headers}
use Rattle.sample_maker.specs.declared.elf.Row.{Row}
use Rattle.sample_maker.specs.inside.Bytes.{word, long}
use Rattle.sample_maker.specs.inside.Images.{section_header_bytes, section_headers_bytes, sizes_of, no_section, file_header_bytes}
use Rattle.sample_maker.specs.inside.ReadImage.{file_header, section_header, no_header}
use Rattle.sample_maker.proofs.Standing.{StandsAt, stands_first, stands_second, stands_slice}

-- THE FILE'S HEADER

header_spelled : (table : ℕ) (rest : List ℕ) → slice_range (file_header_bytes table ++ rest) 16 64 ≡ spelled (file_fields (file_header table))
unfolding file_header_bytes long
header_spelled table rest = refl

header_fits : (table : ℕ) → table < 2 ^ 64 → DoFit (file_fields (file_header table))
header_fits table fits = (omega arith, (omega arith, (omega arith, (omega arith, (omega arith, (omega (arith, fits), (omega arith, (omega arith, (omega arith, (omega arith, (omega arith, (omega arith, (omega arith, tt)))))))))))))

pub header_read : (table : ℕ) (rest : List ℕ) → table < 2 ^ 64 → HasFileHeader (file_header_bytes table ++ rest) (file_header table)
header_read table rest fits = file_headers (file_header_bytes table ++ rest) (file_header table) (header_fits table fits) (header_spelled table rest)

pub header_length : (table : ℕ) → length (file_header_bytes table) ≡ 64
unfolding file_header_bytes long
header_length table = refl

pub header_start : (table : ℕ) (rest : List ℕ) → slice_range (file_header_bytes table ++ rest) 0 7 ≡ 127 ∷ 69 ∷ 76 ∷ 70 ∷ 2 ∷ 1 ∷ 1 ∷ []
unfolding file_header_bytes
header_start table rest = refl

-- THE HEADERS OF SECTIONS

pub section_length : (row : Row) (at : ℕ) → length (section_header_bytes row at) ≡ 64
unfolding section_header_bytes word long
section_length row at = refl

section_spelled : (row : Row) (at : ℕ) → section_header_bytes row at ≡ spelled (section_fields (section_header row at))
unfolding section_header_bytes word long
section_spelled row at = refl

-- what is told of a section fits its header
pub record IsRowSmall (row : Row) (at : ℕ) : Type 0 where
  pub name : row.name < 2 ^ 32
  pub kind : row.kind < 2 ^ 32
  pub place : at < 2 ^ 64
  pub size : row.size < 2 ^ 64

section_fits : (row : Row) (at : ℕ) → IsRowSmall row at → DoFit (section_fields (section_header row at))
section_fits row at small = (omega (arith, small.name), (omega (arith, small.kind), (omega arith, (omega arith, (omega (arith, small.place), (omega (arith, small.size), (omega arith, (omega arith, (omega arith, (omega arith, tt))))))))))

-- the header of the section with a number
pub section_read : (file : List ℕ) (i : ℕ) (row : Row) (at : ℕ) → IsRowSmall row at → StandsAt file (header_at file i) (section_header_bytes row at) → HasSectionHeader file i (section_header row at)
section_read file i row at small stands =
    section_headers file i (section_header row at) (section_fits row at small) (stands_slice file (header_at file i) 64 (header_at file i + 64) (section_header_bytes row at) (section_length row at) refl stands ∙ section_spelled row at)

pub no_section_length : length no_section ≡ 64
unfolding no_section
no_section_length = refl

no_section_spelled : no_section ≡ spelled (section_fields no_header)
unfolding no_section
no_section_spelled = refl

no_section_fits : DoFit (section_fields no_header)
no_section_fits = (omega arith, (omega arith, (omega arith, (omega arith, (omega arith, (omega arith, (omega arith, (omega arith, (omega arith, (omega arith, tt))))))))))

-- that of section 0, and those behind it
pub no_section_read : (file rest : List ℕ) → StandsAt file (header_at file 0) (no_section ++ rest) → HasSectionHeader file 0 no_header
no_section_read file rest stands =
    section_headers file 0 no_header no_section_fits (stands_slice file (header_at file 0) 64 (header_at file 0 + 64) no_section no_section_length refl (stands_first file (header_at file 0) no_section rest stands) ∙ no_section_spelled)

pub behind_no_section : (file rest : List ℕ) → StandsAt file (header_at file 0) (no_section ++ rest) → StandsAt file (header_at file 1) rest
behind_no_section file rest stands = stands_second file (header_at file 0) 64 (header_at file 1) no_section rest no_section_length (omega arith) stands

-- Of sections whose headers follow each other, of which the first has the number `i` and begins at a place, that with the number `i + k`.
pub headers_follow : (file : List ℕ) (i at : ℕ) (rows : List Row) (k : ℕ) (d : Row) → k < length rows → StandsAt file (header_at file i) (section_headers_bytes at rows) → StandsAt file (header_at file (i + k)) (section_header_bytes (get_or rows k d) (at + sizes_of (take k rows)))
headers_follow file i at [] k d inside stands = absurd (omega arith)
headers_follow file i at (row ∷ rows) zero d inside stands =
    let place : at ≡ at + 0 = omega arith in
    let number : i ≡ i + 0 = omega arith in
    subst (λ (n : ℕ). StandsAt file (header_at file n) (section_header_bytes row (at + 0))) number (subst (λ (n : ℕ). StandsAt file (header_at file i) (section_header_bytes row n)) place (stands_first file (header_at file i) (section_header_bytes row at) (section_headers_bytes (at + row.size) rows) stands))
headers_follow file i at (row ∷ rows) (suc k) d inside stands =
    let next : StandsAt file (header_at file (suc i)) (section_headers_bytes (at + row.size) rows) = stands_second file (header_at file i) 64 (header_at file (suc i)) (section_header_bytes row at) (section_headers_bytes (at + row.size) rows) (section_length row at) (omega arith) stands in
    let found = headers_follow file (suc i) (at + row.size) rows k d (omega (arith, inside)) next in
    let number : suc i + k ≡ i + suc k = omega arith in
    let place : at + row.size + sizes_of (take k rows) ≡ at + sizes_of (row ∷ take k rows) = omega (arith, sum_by-cons (λ (row : Row). row.size) row (take k rows)) in
    subst (λ (n : ℕ). StandsAt file (header_at file n) (section_header_bytes (get_or rows k d) (at + sizes_of (row ∷ take k rows)))) number (subst (λ (n : ℕ). StandsAt file (header_at file (suc i + k)) (section_header_bytes (get_or rows k d) n)) place found)
