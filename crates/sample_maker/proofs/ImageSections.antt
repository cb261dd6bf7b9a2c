-- The sections of the generated file: their headers, names and bodies.
use Rattle.std.proofs.Common.{◌≡◌, ◌<◌, ◌+◌, ◌*◌, ℕ, List, [], ◌∷◌, ◌++◌, length, get_or, slice_range, Bool, true, ◌==◌, ◌&&◌, not, if◌then◌else◌, ◌∙◌, ap, refl, arith}
use Rattle.std.specs.Prelude.{bytes_eq}
use Rattle.std.specs.List.{position_or_len}
use Rattle.std.proofs.lemmas.List.{length-append}
use Rattle.dw_base.specs.declared.fault.Span.{Span}
use Rattle.elf_sections.specs.Elf.{names_index, name_offset, offset_of, size_of, body_span, body_of}
use Rattle.elf_sections.specs.Names.{text_at, names_of, name_of}
use Rattle.elf_sections.specs.Headers.{SectionHeader, HasSectionHeader}
use Rattle.sample_maker.specs.declared.elf.Row.{Row}
use Rattle.sample_maker.specs.inside.Bytes.{word, part_bytes, part_header}
use Rattle.sample_maker.specs.inside.Images.{table_bytes, names_bytes, section_headers_bytes, section_header_bytes}
use Rattle.sample_maker.specs.inside.ReadImage.{section_names}
use Rattle.sample_maker.proofs.Lengths.{word_length}
use Rattle.sample_maker.proofs.Standing.{StandsAt, stands_slice}
use Rattle.sample_maker.proofs.FileHeaders.{section_length}
use Rattle.sample_maker.proofs.SoundSections.{eight}

-- HOW LONG THE PARTS ARE

pub table_length : length table_bytes ≡ 78
unfolding table_bytes
table_length = refl

pub names_length : length names_bytes ≡ 96
unfolding names_bytes
names_length = refl

pub part_length : (lists : List ℕ) → length (part_bytes lists) ≡ 12 + length lists
unfolding part_bytes
part_length lists =
    omega (arith, length-append (word (8 + length lists)) (part_header ++ lists), length-append part_header lists, word_length (8 + length lists))

pub headers_length : (at : ℕ) (rows : List Row) → length (section_headers_bytes at rows) ≡ 64 * length rows
headers_length at [] = refl
headers_length at (row ∷ rows) =
    omega (arith, length-append (section_header_bytes row at) (section_headers_bytes (at + row.size) rows), section_length row at, headers_length (at + row.size) rows)

-- NAMES

-- the number of a name
abbrev pub number_of : List ℕ → ℕ
number_of name = position_or_len (λ (other : List ℕ). bytes_eq other name) section_names

pub names_numbered : (i : ℕ) → i < 8 → number_of (get_or section_names i []) ≡ i
names_numbered = eight (λ i. number_of (get_or section_names i []) ≡ i) refl refl refl refl refl refl refl refl

-- the name of a section, where section 7 has the names
pub name_there : (file : List ℕ) (i n : ℕ) → names_index file ≡ 7 → body_of file 7 ≡ names_bytes → name_offset file i ≡ n → name_of file i ≡ text_at names_bytes n
name_there file i n names body place =
    ap (λ (k : ℕ). if k == 0 then [] else text_at (if k == 0 then [] else body_of file k) (name_offset file i)) names ∙ ap (λ (z : List ℕ). text_at z (name_offset file i)) body ∙ ap (λ (k : ℕ). text_at names_bytes k) place

pub names_there : (file : List ℕ) → names_index file ≡ 7 → body_of file 7 ≡ names_bytes → names_of file ≡ names_bytes
names_there file names body = ap (λ (k : ℕ). if k == 0 then [] else body_of file k) names ∙ body

-- BODIES

abbrev span_by : Bool → ℕ → ℕ → Span
span_by b at len = if b then record { at = at; len = len } else record { at = 0; len = 0 }

-- the body of a section that holds bytes
pub body_there : (file : List ℕ) (i : ℕ) (h : SectionHeader) (part : List ℕ) → HasSectionHeader file i h → (not (h.sh_type == 0) && not (h.sh_type == 8)) ≡ true → length part ≡ h.sh_size → StandsAt file h.sh_offset part → body_of file i ≡ part
body_there file i h part has holds size stands =
    let here : body_span file i ≡ record { at = h.sh_offset; len = h.sh_size } = ap (λ (k : ℕ). span_by (not (k == 0) && not (k == 8)) (offset_of file i) (size_of file i)) has.kind_is ∙ ap (λ (b : Bool). span_by b (offset_of file i) (size_of file i)) holds ∙ ap (λ (n : ℕ). span_by true n (size_of file i)) has.offset_is ∙ ap (λ (n : ℕ). span_by true h.sh_offset n) has.size_is in
    ap (λ (s : Span). slice_range file s.at (s.at + s.len)) here ∙ stands_slice file h.sh_offset h.sh_size (h.sh_offset + h.sh_size) part size refl stands
