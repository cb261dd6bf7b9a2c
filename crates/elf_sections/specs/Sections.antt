-- Sections by the fields of their headers.
use Rattle.std.specs.Prelude.{◌≡◌, ◌≢◌, ◌<◌, ℕ, ◌+◌, List, length, ◌==◌, if◌then◌else◌}
use Rattle.dw_base.specs.declared.fault.Span.{Span}
use Rattle.elf_sections.specs.declared.section.Section.{Section}
use Rattle.elf_sections.specs.Elf.{section_count, names_index, name_offset, body_span, kind_of, flags_of, link_of, info_of, align_of}
use Rattle.elf_sections.specs.Names.{name_of}

-- the span of a section's name, without its zero byte
abbrev pub name_span : List ℕ → ℕ → Span
name_span file i =
    if names_index file == 0 then record { at = 0; len = 0 }
    else record { at = (body_span file (names_index file)).at + name_offset file i; len = length (name_of file i) }

-- a section of the file
abbrev pub section_of : List ℕ → ℕ → Section
section_of file i = record {
  name = name_span file i;
  kind = kind_of file i;
  flags = flags_of file i;
  body = body_span file i;
  link = link_of file i;
  info = info_of file i;
  align = align_of file i;
}

-- the section of this number is the first of this name
pub record IsFirstNamed (file : List ℕ) (wanted : List ℕ) (i : ℕ) : Type 0 where
  pub inside : i < section_count file
  pub named : name_of file i ≡ wanted
  pub before : (k : ℕ) → k < i → name_of file k ≢ wanted

-- no section has this name
abbrev pub HasNone : List ℕ → List ℕ → Type 0
HasNone file wanted = (k : ℕ) → k < section_count file → name_of file k ≢ wanted
