-- What is read of the file around the sections (System V ABI), by the sections that it has.
use Rattle.std.specs.Prelude.{◌+◌, ℕ, zero, suc, List, [], ◌∷◌, length, take, get_or, codes}
use Rattle.companions.specs.declared.set.ArangeSet.{ArangeSet}
use Rattle.elf_sections.specs.Headers.{FileHeader, SectionHeader}
use Rattle.list_model.specs.declared.entry.ListKind.{ListKind}
use Rattle.list_model.specs.declared.entry.ListKind.TheVariants.{Ranges, Locations}
use Rattle.sample_maker.specs.declared.elf.Row.{Row}
use Rattle.sample_maker.specs.Drawn.{UnitDrawn}
use Rattle.sample_maker.specs.inside.Bytes.{program_bytes, part_bytes}
use Rattle.sample_maker.specs.inside.Files.{unit_bytes, unit_locations, unit_ranges, info_bytes, lines_bytes, ranges_bytes, locations_bytes, sets_bytes}
use Rattle.sample_maker.specs.inside.Images.{sizes_of, image_bytes}

-- the file's header, where the section headers begin at a place
abbrev pub file_header : ℕ → FileHeader
file_header table = record {
  e_type = 2;
  e_machine = 62;
  e_version = 1;
  e_entry = 0;
  e_phoff = 0;
  e_shoff = table;
  e_flags = 0;
  e_ehsize = 64;
  e_phentsize = 0;
  e_phnum = 0;
  e_shentsize = 64;
  e_shnum = 8;
  e_shstrndx = 7;
}

-- the header of a section that has its name at a place among the names, and begins at a place of the file
abbrev pub section_header : Row → ℕ → SectionHeader
section_header row at = record {
  sh_name = row.name;
  sh_type = row.kind;
  sh_flags = 0;
  sh_addr = 0;
  sh_offset = at;
  sh_size = row.size;
  sh_link = 0;
  sh_info = 0;
  sh_addralign = 1;
  sh_entsize = 0;
}

-- the header of section 0
abbrev pub no_header : SectionHeader
no_header = record {
  sh_name = 0;
  sh_type = 0;
  sh_flags = 0;
  sh_addr = 0;
  sh_offset = 0;
  sh_size = 0;
  sh_link = 0;
  sh_info = 0;
  sh_addralign = 0;
  sh_entsize = 0;
}

-- the names of the sections, by their numbers
abbrev pub section_names : List (List ℕ)
section_names =
    [] ∷ codes ".debug_info" ∷ codes ".debug_abbrev" ∷ codes ".debug_line" ∷ codes ".debug_rnglists" ∷ codes ".debug_loclists" ∷ codes ".debug_aranges" ∷ codes ".shstrtab" ∷ []

-- where the section behind some others begins, which stand one after the other behind the file's header
abbrev pub section_place : List Row → ℕ → ℕ
section_place rows k = 64 + sizes_of (take k rows)

-- the headers of the sections, by their numbers
abbrev pub header_numbered : List Row → ℕ → SectionHeader
header_numbered rows zero = no_header
header_numbered rows (suc k) = section_header (get_or rows k (record { name = 0; kind = 0; size = 0 })) (section_place rows k)

-- The places of units in .debug_info, where so many bytes stand before the first, which has the number `u`; `program`, `l` and `r` are
-- those of the other sections before it, as in `info_bytes`.
abbrev pub unit_places : ℕ → ℕ → ℕ → ℕ → ℕ → List UnitDrawn → List ℕ
unit_places place u program l r [] = []
unit_places place u program l r (unit ∷ units) = place ∷ unit_places (place + length (unit_bytes u program l r unit)) (suc u) (program + length (program_bytes u unit)) (l + length (unit_locations unit)) (r + length (unit_ranges u unit)) units

-- how many bytes a set of address ranges has
abbrev pub set_size : ℕ
set_size = 32

-- the sets of address ranges of units, of which the first stands at a place and is of the unit with a number
abbrev pub sets_read : ℕ → ℕ → List UnitDrawn → List ArangeSet
sets_read at u [] = []
sets_read at u (unit ∷ units) = record { at = at; unit = u } ∷ sets_read (at + set_size) (suc u) units

-- the file of units
abbrev pub file_of : List UnitDrawn → List ℕ
file_of units = image_bytes (info_bytes 0 0 0 0 units) (lines_bytes 0 units) (ranges_bytes 0 units) (locations_bytes units) (sets_bytes 0 0 0 0 0 units)

-- the bytes of its section of lists of a kind
abbrev pub lists_part : List UnitDrawn → ListKind → List ℕ
lists_part units Ranges = part_bytes (ranges_bytes 0 units)
lists_part units Locations = part_bytes (locations_bytes units)
