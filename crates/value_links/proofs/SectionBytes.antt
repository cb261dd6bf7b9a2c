-- The bytes of debug sections, and where they stand in the file.
use Rattle.std.proofs.Common.{◌≡◌, ◌≤◌, ◌<◌, ◌+◌, ◌-◌, ◌^◌, ◌∙◌, ℕ, List, [], length, drop, Bool, true, false, sym, ap, subst, arith}
use Rattle.std.specs.Prelude.{slice_range, if◌then◌else◌}
use Rattle.std.proofs.lemmas.List.{length-take}
use Rattle.dw_base.specs.declared.fault.Span.{Span}
use Rattle.dw_base.specs.declared.fault.Reach.TheVariants.{Wide}
use Rattle.elf_sections.specs.declared.section.Section.{Section}
use Rattle.elf_sections.specs.Elf.{section_count, offset_of, size_of, has_bytes, body_span, body_of}
use Rattle.elf_sections.specs.Sections.{section_of, IsFirstNamed, HasNone}
use Rattle.elf_sections.specs.Faults.{IsRead}
use Rattle.elf_sections.proofs.NameLaws.{body_inside}
use Rattle.value_links.specs.Sections.{body_named, offset_named, body_or_none, offset_or_zero}
use Rattle.value_links.proofs.SectionLaws.{sections_are_found}

pub none_named : (file wanted : List ℕ) → HasNone file wanted → (body_named file wanted ≡ []) × (offset_named file wanted ≡ 0)
none_named file wanted none =
    let is = (sections_are_found.missing file wanted).1 none in
    (ap (body_or_none file) is, ap (offset_or_zero file) is)

pub first_named : (file wanted : List ℕ) (i : ℕ) → IsFirstNamed file wanted i → (body_named file wanted ≡ body_of file i) × (offset_named file wanted ≡ offset_of file i)
first_named file wanted i first =
    let is = (sections_are_found.found file wanted i).1 first in
    (ap (body_or_none file) is, ap (offset_or_zero file) is)

pub span_inside : (file : List ℕ) (i : ℕ) → IsRead file Wide → i < section_count file → (body_span file i).at + (body_span file i).len ≤ length file
span_inside file i read inside = body_inside file i (read.whole.sections i inside)

abbrev span_by : Bool → ℕ → ℕ → Span
span_by bytes offset size = if bytes then record { at = offset; len = size } else record { at = 0; len = 0 }

room_by : (file : List ℕ) (bytes : Bool) (offset size : ℕ) → (if bytes then offset + size else 0) ≤ length file → length file ≤ 2 ^ 35 → offset < 2 ^ 64 → offset + length (slice_range file (span_by bytes offset size).at ((span_by bytes offset size).at + (span_by bytes offset size).len)) < 2 ^ 64
room_by file true offset size inside short fits = omega (arith, length-take (offset + size - offset) (drop offset file))
room_by file false offset size inside short fits = omega (arith, length-take (0 + 0 - 0) (drop 0 file))

pub body_room : (file : List ℕ) (i : ℕ) → IsRead file Wide → i < section_count file → offset_of file i < 2 ^ 64 → offset_of file i + length (body_of file i) < 2 ^ 64
body_room file i read inside fits = room_by file (has_bytes file i) (offset_of file i) (size_of file i) (read.whole.sections i inside) read.small.bytes fits

-- WHAT IS FOUND

-- the section of a file of which an image was read
module _ (file image name : List ℕ) (i : ℕ) (s : Section) (same : image ≡ file) (read : IsRead file Wide) (found : IsFirstNamed image name i) (is : s ≡ section_of image i) where
  first : IsFirstNamed file name i
  first = subst (λ (z : List ℕ). IsFirstNamed z name i) same found

  section_is : s ≡ section_of file i
  section_is = is ∙ ap (λ (z : List ℕ). section_of z i) same

  pub inside_found : s.body.at + s.body.len ≤ length file
  inside_found = subst (λ (z : Section). z.body.at + z.body.len ≤ length file) (sym section_is) (span_inside file i read first.inside)

  body_is : (bytes : List ℕ) → bytes ≡ slice_range file s.body.at (s.body.at + s.body.len) → bytes ≡ body_of file i
  body_is bytes e = e ∙ ap (λ (z : Section). slice_range file z.body.at (z.body.at + z.body.len)) section_is

  pub bytes_found : (bytes : List ℕ) → bytes ≡ slice_range file s.body.at (s.body.at + s.body.len) → bytes ≡ body_named file name
  bytes_found bytes e = body_is bytes e ∙ sym (first_named file name i first).0

  offset_is : (offset : ℕ) → offset ≡ offset_of image i → offset ≡ offset_of file i
  offset_is offset e = e ∙ ap (λ (z : List ℕ). offset_of z i) same

  pub origin_found : (offset : ℕ) → offset ≡ offset_of image i → offset ≡ offset_named file name
  origin_found offset e = offset_is offset e ∙ sym (first_named file name i first).1

  pub room_found : (bytes : List ℕ) (offset : ℕ) → bytes ≡ slice_range file s.body.at (s.body.at + s.body.len) → offset ≡ offset_of image i → offset < 2 ^ 64 → offset + length bytes < 2 ^ 64
  room_found bytes offset b o fits =
      let here : offset ≡ offset_of file i = offset_is offset o in
      let room : offset_of file i + length (body_of file i) < 2 ^ 64 = body_room file i read first.inside (omega arith) in
      let size : length bytes ≡ length (body_of file i) = ap length (body_is bytes b) in
      omega arith
