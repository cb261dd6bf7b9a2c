-- The generated file is read: both passes find it in order, and its debug sections are those that it was made of.
use Rattle.std.proofs.Common.{◌≡◌, ◌≢◌, ◌≤◌, ◌<◌, ◌+◌, ◌*◌, ◌^◌, ℕ, List, [], length, get_or, Bool, false, ◌==◌, ◌||◌, ◌&&◌, not, inl, inr, ◌∙◌, sym, ap, refl, true≢false, arith}
use Rattle.std.specs.Prelude.{bytes_eq, codes}
use Rattle.dw_base.specs.declared.fault.Reach.TheVariants.{Narrow}
use Rattle.elf_sections.specs.Elf.{section_count, name_offset, fixed_end_of}
use Rattle.elf_sections.specs.Names.{names_of, name_of, is_debug_name, is_listed}
use Rattle.elf_sections.specs.Sections.{IsFirstNamed}
use Rattle.elf_sections.specs.Headers.{HasFileHeader, HasSectionHeader}
use Rattle.elf_sections.specs.Faults.{IsWhole, IsHeaderSmall, IsSound, IsRead}
use Rattle.list_model.specs.declared.entry.ListKind.TheVariants.{Ranges, Locations}
use Rattle.value_links.specs.Sections.{info_name, abbrev_name, line_name, aranges_name, addr_name, rnglists_name, loclists_name, debug_info, debug_abbrev, debug_line, debug_lists, debug_aranges, debug_addr}
use Rattle.value_links.proofs.SectionBytes.{first_named, none_named}
use Rattle.sample_maker.specs.declared.elf.Row.{Row}
use Rattle.sample_maker.specs.inside.Bytes.{part_bytes}
use Rattle.sample_maker.specs.inside.Images.{table_bytes, names_bytes, rows_for, sizes_of, image_bytes}
use Rattle.sample_maker.specs.inside.ReadImage.{file_header, section_names, header_numbered}
use Rattle.sample_maker.proofs.SoundSections.{fixed_end, IsUsual, section_sound, section_inside, section_short, movable_small, eight}
use Rattle.sample_maker.proofs.ImageSections.{number_of, names_numbered, names_length, names_there}
use Rattle.sample_maker.proofs.ImageParts.{table, gap_small, header, file_length, elf, section_told, info_body, table_body, lines_body, ranges_body, locations_body, aranges_body, names_body, section_named_is}

-- none of the names goes with debug sections without being known
abbrev companion_name : List ℕ → Bool
companion_name name = bytes_eq name (codes ".gdb_index") || (is_debug_name name && not (is_listed name))

names_known : (i : ℕ) → i < 8 → companion_name (get_or section_names i []) ≡ false
names_known = eight (λ i. companion_name (get_or section_names i []) ≡ false) refl refl refl refl refl refl refl refl

-- What is told of the sections: section 0 has no bytes; the others stand behind the file's header and aren't loaded.
module _ (info lines ranges locations aranges : List ℕ) (file : List ℕ) (is : file ≡ image_bytes info lines ranges locations aranges) (small : sizes_of (rows_for info lines ranges locations aranges) ≤ 2 ^ 27) where
  abbrev all : List Row
  all = rows_for info lines ranges locations aranges

  abbrev name_numbered : ℕ → List ℕ
  name_numbered i = get_or section_names i []

  head : HasFileHeader file (file_header (table info lines ranges locations aranges))
  head = header info lines ranges locations aranges file is small

  many : length file ≡ table info lines ranges locations aranges + 64 * 8
  many = file_length info lines ranges locations aranges file is small

  told : (i : ℕ) → i < 8 → HasSectionHeader file i (header_numbered all i)
  told = section_told info lines ranges locations aranges file is small

  named : (i : ℕ) → i < 8 → name_of file i ≡ name_numbered i
  named = section_named_is info lines ranges locations aranges file is small

  below : (i : ℕ) → i < section_count file → i < 8
  below i inside = omega (arith, inside, head.section_count_is)

  -- one section of them, and one that isn't written
  usual : (i : ℕ) → i < 8 → IsUsual (length file) i (name_numbered i) (header_numbered all i) (not (i == 0))
  usual = eight (λ i. IsUsual (length file) i (name_numbered i) (header_numbered all i) (not (i == 0)))
      (record { holds = refl; relocates = refl; flags = refl; behind = λ e. absurd (true≢false (sym e)); inside = λ e. absurd (true≢false (sym e)); short = omega arith; aligned = omega arith; current = refl; placed = inl refl })
      (record { holds = refl; relocates = refl; flags = refl; behind = λ e. omega arith; inside = λ e. omega (arith, many); short = omega (arith, small); aligned = omega arith; current = refl; placed = inr (refl, refl) })
      (record { holds = refl; relocates = refl; flags = refl; behind = λ e. omega arith; inside = λ e. omega (arith, many); short = omega (arith, small); aligned = omega arith; current = refl; placed = inr (refl, refl) })
      (record { holds = refl; relocates = refl; flags = refl; behind = λ e. omega arith; inside = λ e. omega (arith, many); short = omega (arith, small); aligned = omega arith; current = refl; placed = inr (refl, refl) })
      (record { holds = refl; relocates = refl; flags = refl; behind = λ e. omega arith; inside = λ e. omega (arith, many); short = omega (arith, small); aligned = omega arith; current = refl; placed = inr (refl, refl) })
      (record { holds = refl; relocates = refl; flags = refl; behind = λ e. omega arith; inside = λ e. omega (arith, many); short = omega (arith, small); aligned = omega arith; current = refl; placed = inr (refl, refl) })
      (record { holds = refl; relocates = refl; flags = refl; behind = λ e. omega arith; inside = λ e. omega (arith, many); short = omega (arith, small); aligned = omega arith; current = refl; placed = inr (refl, refl) })
      (record { holds = refl; relocates = refl; flags = refl; behind = λ e. omega arith; inside = λ e. omega (arith, many); short = omega arith; aligned = omega arith; current = refl; placed = inl refl })

  fixed : fixed_end_of file ≡ 64
  fixed = fixed_end file head.section_count_is head.segment_count_is (λ i inside. (told i (below i inside)).flags_are ∙ (usual i (below i inside)).flags)

  -- each name ends among the names
  name_ends : (i : ℕ) → i < 8 → (header_numbered all i).sh_name + length (name_numbered i) < 96
  name_ends = eight (λ i. (header_numbered all i).sh_name + length (name_numbered i) < 96) (omega arith) (omega arith) (omega arith) (omega arith) (omega arith) (omega arith) (omega arith) (omega arith)

  names_are : names_of file ≡ names_bytes
  names_are = names_there file head.names_are (names_body info lines ranges locations aranges file is small)

  name_inside : (i : ℕ) → i < 8 → name_offset file i + length (name_of file i) < length (names_of file)
  name_inside i inside =
      omega (arith, (told i inside).name_is, ap (λ (z : List ℕ). length z) (named i inside), ap (λ (z : List ℕ). length z) names_are, names_length, name_ends i inside)

  -- the names are told apart by their numbers
  numbered : (i : ℕ) → i < 8 → number_of (name_of file i) ≡ i
  numbered i inside = ap number_of (named i inside) ∙ names_numbered i inside

  apart : (i j : ℕ) → i < j → j < 8 → name_of file i ≢ name_of file j
  apart i j less inside same =
      let first = numbered i (omega (arith, less, inside)) in
      let second = numbered j inside in
      let one : i ≡ j = sym first ∙ ap number_of same ∙ second in
      absurd (omega (arith, less, one))

  whole : IsWhole file
  whole = record {
    section_table = record {
      sizes = λ some. head.section_size_is;
      inside = λ some. omega (arith, many, head.sections_are, head.section_count_is);
      names = λ some. omega (arith, head.names_are, head.section_count_is);
    };
    segment_table = record {
      sizes = λ some. absurd (some head.segment_count_is);
      inside = λ some. absurd (some head.segment_count_is);
    };
    segments = λ i inside. absurd (omega (arith, inside, head.segment_count_is));
    sections = λ i inside. section_inside file i (name_numbered i) (header_numbered all i) (not (i == 0)) fixed head.names_are (named i (below i inside)) (told i (below i inside)) (usual i (below i inside));
    named = λ i inside some. name_inside i (below i inside);
  }

  limits : IsHeaderSmall file Narrow
  limits = record {
    bytes = omega (arith, many, small, gap_small info lines ranges locations aranges);
    sections = omega (arith, head.section_count_is);
    segments = omega (arith, head.segment_count_is);
    names = λ e. absurd (omega (arith, head.names_are, e));
    none = λ e. absurd (omega (arith, head.section_count_is, e));
  }

  sound : IsSound file Narrow
  sound = record {
    apart = λ (some, overlap). some head.segment_count_is;
    sections = λ i inside. section_sound file i (name_numbered i) (header_numbered all i) (not (i == 0)) fixed head.names_are (named i (below i inside)) (told i (below i inside)) (usual i (below i inside));
    known = λ i inside. ap companion_name (named i (below i inside)) ∙ names_known i (below i inside);
    distinct = λ i j less inside debug. apart i j less (below j inside);
    movable = omega (arith, head.section_count_is, movable_small file (2 ^ 27) (section_count file) (λ k inside. section_short file k (name_numbered k) (header_numbered all k) (not (k == 0)) fixed head.names_are (named k (below k inside)) (told k (below k inside)) (usual k (below k inside))));
  }

  pub image_read : IsRead file Narrow
  image_read = record {
    elf = elf info lines ranges locations aranges file is small;
    linked = inl head.type_is;
    small = limits;
    whole = whole;
    sound = sound;
  }

  -- THE DEBUG SECTIONS

  first : (wanted : List ℕ) (i : ℕ) → i < 8 → name_numbered i ≡ wanted → IsFirstNamed file wanted i
  first wanted i inside name = record {
    inside = omega (arith, inside, head.section_count_is);
    named = named i inside ∙ name;
    before = λ k less same. apart k i less inside (same ∙ sym name ∙ sym (named i inside));
  }

  pub info_is : debug_info file ≡ info
  info_is = (first_named file info_name 1 (first info_name 1 (omega arith) refl)).0 ∙ info_body info lines ranges locations aranges file is small

  pub abbrev_is : debug_abbrev file ≡ table_bytes
  abbrev_is = (first_named file abbrev_name 2 (first abbrev_name 2 (omega arith) refl)).0 ∙ table_body info lines ranges locations aranges file is small

  pub line_is : debug_line file ≡ lines
  line_is = (first_named file line_name 3 (first line_name 3 (omega arith) refl)).0 ∙ lines_body info lines ranges locations aranges file is small

  pub rnglists_is : debug_lists file Ranges ≡ part_bytes ranges
  rnglists_is = (first_named file rnglists_name 4 (first rnglists_name 4 (omega arith) refl)).0 ∙ ranges_body info lines ranges locations aranges file is small

  pub loclists_is : debug_lists file Locations ≡ part_bytes locations
  loclists_is = (first_named file loclists_name 5 (first loclists_name 5 (omega arith) refl)).0 ∙ locations_body info lines ranges locations aranges file is small

  pub aranges_is : debug_aranges file ≡ aranges
  aranges_is = (first_named file aranges_name 6 (first aranges_name 6 (omega arith) refl)).0 ∙ aranges_body info lines ranges locations aranges file is small

  -- there are no address tables
  addr_apart : (i : ℕ) → i < 8 → name_of file i ≢ addr_name
  addr_apart i inside same =
      let past : number_of addr_name ≡ 8 = refl in
      let one : i ≡ 8 = sym (numbered i inside) ∙ ap number_of same ∙ past in
      absurd (omega (arith, inside, one))

  pub addr_is : debug_addr file ≡ []
  addr_is = (none_named file addr_name (λ i inside. addr_apart i (below i inside))).0
