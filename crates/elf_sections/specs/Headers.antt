-- The headers of the System V ABI (ELF-64) as named fields in the ABI's order, and the bytes that spell them. The fields
-- that are read are numbers at places; the laws say that these are the ABI's fields.
use Rattle.std.specs.Prelude.{◌≡◌, ◌<◌, ◌+◌, ◌^◌, ℕ, List, [], ◌∷◌, ◌++◌, slice_range}
use Rattle.std.specs.Int.{bytes_low_first}
use Rattle.elf_sections.specs.Elf.{file_type, segments_at, sections_at, segment_size, segment_count, section_size, section_count, names_index, segment_at, header_of, segment_end, name_offset, kind_of, flags_of, offset_of, size_of, link_of, info_of, align_of}

-- a field: how many bytes it has, and its value
abbrev pub Field : Type 0
Field = ℕ × ℕ

-- the values fit their fields
abbrev pub DoFit : List Field → Type 0
DoFit [] = Unit {0}
DoFit (f ∷ fs) = (f.1 < 256 ^ f.0) × DoFit fs

-- fields one after the other, each with its lowest byte first
abbrev pub spelled : List Field → List ℕ
spelled [] = []
spelled (f ∷ fs) = bytes_low_first 0 f.0 f.1 ++ spelled fs

-- Elf64_Ehdr after the 16 bytes of e_ident
pub record FileHeader : Type 0 where
  pub e_type : ℕ
  pub e_machine : ℕ
  pub e_version : ℕ
  pub e_entry : ℕ
  pub e_phoff : ℕ
  pub e_shoff : ℕ
  pub e_flags : ℕ
  pub e_ehsize : ℕ
  pub e_phentsize : ℕ
  pub e_phnum : ℕ
  pub e_shentsize : ℕ
  pub e_shnum : ℕ
  pub e_shstrndx : ℕ

abbrev pub file_fields : FileHeader → List Field
file_fields h =
    (2, h.e_type) ∷ (2, h.e_machine) ∷ (4, h.e_version) ∷ (8, h.e_entry) ∷ (8, h.e_phoff) ∷ (8, h.e_shoff) ∷ (4, h.e_flags) ∷ (2, h.e_ehsize) ∷ (2, h.e_phentsize) ∷ (2, h.e_phnum) ∷ (2, h.e_shentsize) ∷ (2, h.e_shnum) ∷ (2, h.e_shstrndx) ∷ []

-- Elf64_Phdr
pub record SegmentHeader : Type 0 where
  pub p_type : ℕ
  pub p_flags : ℕ
  pub p_offset : ℕ
  pub p_vaddr : ℕ
  pub p_paddr : ℕ
  pub p_filesz : ℕ
  pub p_memsz : ℕ
  pub p_align : ℕ

abbrev pub segment_fields : SegmentHeader → List Field
segment_fields h =
    (4, h.p_type) ∷ (4, h.p_flags) ∷ (8, h.p_offset) ∷ (8, h.p_vaddr) ∷ (8, h.p_paddr) ∷ (8, h.p_filesz) ∷ (8, h.p_memsz) ∷ (8, h.p_align) ∷ []

-- Elf64_Shdr
pub record SectionHeader : Type 0 where
  pub sh_name : ℕ
  pub sh_type : ℕ
  pub sh_flags : ℕ
  pub sh_addr : ℕ
  pub sh_offset : ℕ
  pub sh_size : ℕ
  pub sh_link : ℕ
  pub sh_info : ℕ
  pub sh_addralign : ℕ
  pub sh_entsize : ℕ

abbrev pub section_fields : SectionHeader → List Field
section_fields h =
    (4, h.sh_name) ∷ (4, h.sh_type) ∷ (8, h.sh_flags) ∷ (8, h.sh_addr) ∷ (8, h.sh_offset) ∷ (8, h.sh_size) ∷ (4, h.sh_link) ∷ (4, h.sh_info) ∷ (8, h.sh_addralign) ∷ (8, h.sh_entsize) ∷ []

-- the fields that are read of a file's header are those of the header that its bytes 16 to 63 spell
pub record HasFileHeader (file : List ℕ) (h : FileHeader) : Type 0 where
  pub type_is : file_type file ≡ h.e_type
  pub segments_are : segments_at file ≡ h.e_phoff
  pub sections_are : sections_at file ≡ h.e_shoff
  pub segment_size_is : segment_size file ≡ h.e_phentsize
  pub segment_count_is : segment_count file ≡ h.e_phnum
  pub section_size_is : section_size file ≡ h.e_shentsize
  pub section_count_is : section_count file ≡ h.e_shnum
  pub names_are : names_index file ≡ h.e_shstrndx

-- the same of the header of a section, which its 64 bytes spell
pub record HasSectionHeader (file : List ℕ) (i : ℕ) (h : SectionHeader) : Type 0 where
  pub name_is : name_offset file i ≡ h.sh_name
  pub kind_is : kind_of file i ≡ h.sh_type
  pub flags_are : flags_of file i ≡ h.sh_flags
  pub offset_is : offset_of file i ≡ h.sh_offset
  pub size_is : size_of file i ≡ h.sh_size
  pub link_is : link_of file i ≡ h.sh_link
  pub info_is : info_of file i ≡ h.sh_info
  pub align_is : align_of file i ≡ h.sh_addralign

-- bytes that spell a header have its fields where they are read
abbrev pub ReadsFileHeaders : Type 0
ReadsFileHeaders = (file : List ℕ) (h : FileHeader) → DoFit (file_fields h) → slice_range file 16 64 ≡ spelled (file_fields h) → HasFileHeader file h

abbrev pub ReadsSegmentHeaders : Type 0
ReadsSegmentHeaders =
    (file : List ℕ) (i : ℕ) (h : SegmentHeader) → DoFit (segment_fields h) → slice_range file (segment_at file i) (segment_at file i + 56) ≡ spelled (segment_fields h) → segment_end file i ≡ h.p_offset + h.p_filesz

abbrev pub ReadsSectionHeaders : Type 0
ReadsSectionHeaders =
    (file : List ℕ) (i : ℕ) (h : SectionHeader) → DoFit (section_fields h) → header_of file i ≡ spelled (section_fields h) → HasSectionHeader file i h
