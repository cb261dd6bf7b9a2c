-- The debug sections of a file, by their names. A section that is missing counts as empty.
use Rattle.std.specs.Prelude.{◌≡◌, ◌↔◌, ℕ, List, [], Option, Some, None, bytes_eq, codes}
use Rattle.std.specs.List.{position, range_with_len}
use Rattle.elf_sections.specs.Elf.{section_count, offset_of, body_of}
use Rattle.elf_sections.specs.Names.{name_of}
use Rattle.elf_sections.specs.Sections.{IsFirstNamed, HasNone}
use Rattle.list_model.specs.declared.entry.ListKind.{ListKind}
use Rattle.list_model.specs.declared.entry.ListKind.TheVariants.{Ranges, Locations}

-- the number of the first section with a name. No two sections of a valid file have the same debug name.
abbrev pub section_named : List ℕ → List ℕ → Option ℕ
section_named file wanted = position (λ i. bytes_eq (name_of file i) wanted) (range_with_len 0 (section_count file))

-- the bytes of a section, or of a missing one
abbrev pub body_or_none : List ℕ → Option ℕ → List ℕ
body_or_none file (Some i) = body_of file i
body_or_none file None = []

-- its file offset
abbrev pub offset_or_zero : List ℕ → Option ℕ → ℕ
offset_or_zero file (Some i) = offset_of file i
offset_or_zero file None = 0

-- the body and the file offset of the section with a name
abbrev pub body_named : List ℕ → List ℕ → List ℕ
body_named file wanted = body_or_none file (section_named file wanted)

abbrev pub offset_named : List ℕ → List ℕ → ℕ
offset_named file wanted = offset_or_zero file (section_named file wanted)

-- units and their entries (DWARF 5 section 7.5)
abbrev pub info_name : List ℕ
info_name = codes ".debug_info"

abbrev pub debug_info : List ℕ → List ℕ
debug_info file = body_named file info_name

-- abbreviation tables (DWARF 5 section 7.5.3)
abbrev pub abbrev_name : List ℕ
abbrev_name = codes ".debug_abbrev"

abbrev pub debug_abbrev : List ℕ → List ℕ
debug_abbrev file = body_named file abbrev_name

-- line number programs (DWARF 5 section 6.2.4)
abbrev pub line_name : List ℕ
line_name = codes ".debug_line"

abbrev pub debug_line : List ℕ → List ℕ
debug_line file = body_named file line_name

-- sets of address ranges (DWARF 5 section 6.1.2)
abbrev pub aranges_name : List ℕ
aranges_name = codes ".debug_aranges"

abbrev pub debug_aranges : List ℕ → List ℕ
debug_aranges file = body_named file aranges_name

-- address tables (DWARF 5 section 7.27)
abbrev pub addr_name : List ℕ
addr_name = codes ".debug_addr"

abbrev pub debug_addr : List ℕ → List ℕ
debug_addr file = body_named file addr_name

-- range lists (DWARF 5 section 7.28) and location lists (section 7.29)
abbrev pub rnglists_name : List ℕ
rnglists_name = codes ".debug_rnglists"

abbrev pub debug_rnglists : List ℕ → List ℕ
debug_rnglists file = body_named file rnglists_name

abbrev pub loclists_name : List ℕ
loclists_name = codes ".debug_loclists"

abbrev pub debug_loclists : List ℕ → List ℕ
debug_loclists file = body_named file loclists_name

-- the section of lists of a kind
abbrev pub lists_name : ListKind → List ℕ
lists_name Ranges = rnglists_name
lists_name Locations = loclists_name

abbrev pub debug_lists : List ℕ → ListKind → List ℕ
debug_lists file kind = body_named file (lists_name kind)

-- a law: the section is found by its name exactly where one has it
pub record FindsSections : Type 0 where
  pub found : (file wanted : List ℕ) (i : ℕ) → (section_named file wanted ≡ Some i) ↔ IsFirstNamed file wanted i
  pub missing : (file wanted : List ℕ) → (section_named file wanted ≡ None) ↔ HasNone file wanted
