-- The faults of a file that its ELF header, its tables and the names of its sections show. They are looked for in two
-- passes, of which the first that has a fault decides. Each fault stands at a place, an offset in the file.
-- Inner functions and proofs alone need what stands here.
use Rattle.std.specs.Prelude.{◌≡◌, ◌≤◌, ◌<◌, ◌⊎◌, ℕ, List, length}
use Rattle.dw_base.specs.declared.fault.Fault.{Fault}
use Rattle.dw_base.specs.declared.fault.Reach.{Reach}
use Rattle.dw_base.specs.declared.fault.Reach.TheVariants.{Wide}
use Rattle.dw_base.specs.declared.fault.Refusal.{Refusal}
use Rattle.dw_base.specs.Refusals.{IsRefusedFor}
use Rattle.elf_sections.specs.Elf.{IsElf64, file_type, section_count, segment_count, segment_end}
use Rattle.elf_sections.specs.Faults.{movable_limit, movable_bytes, DoSegmentsOverlap, ImageFault, ElfFault, HasSectionTable, HasSegmentTable, IsWhole, IsHeaderSmall, IsSectionSound, HasDistinctNames}

-- WHICH FAULT IS NAMED

-- a refusal names a fault of the first pass, or memory was wanting
abbrev pub NamesElfFault : List ℕ → Reach → Refusal → Type 0
NamesElfFault file reach = IsRefusedFor (λ fault. ElfFault file reach fault.kind fault.place)

-- a fault of the first pass stands in an ELF-64 file, and whichever limits it is held to
abbrev pub HasFault : List ℕ → Reach → Fault → Type 0
HasFault file reach fault = ImageFault file reach fault.kind fault.place

abbrev pub HasFaultAnyway : List ℕ → Fault → Type 0
HasFaultAnyway file fault = (reach : Reach) → ImageFault file reach fault.kind fault.place

-- FILES WITHOUT A FAULT

-- what the file's header says is in order, and so are the segments
pub record IsHeaderSound (file : List ℕ) (reach : Reach) : Type 0 where
  pub linked : (file_type file ≡ 2) ⊎ (file_type file ≡ 3)
  pub small : IsHeaderSmall file reach
  pub section_table : HasSectionTable file
  pub segment_table : HasSegmentTable file
  pub segments : (i : ℕ) → i < segment_count file → segment_end file i ≤ length file

-- the header's counts, the tables and all that they name are in order
pub record HasTables (file : List ℕ) : Type 0 where
  pub header : 64 ≤ length file
  pub small : IsHeaderSmall file Wide
  pub whole : IsWhole file

-- no section of the file has a fault of the first pass, neither by itself nor beside the others
pub record IsArranged (file : List ℕ) (reach : Reach) : Type 0 where
  pub apart : ¬ DoSegmentsOverlap file
  pub sections : (i : ℕ) → i < section_count file → IsSectionSound file reach i
  pub distinct : HasDistinctNames file
  pub movable : movable_bytes file (section_count file) ≤ movable_limit reach

-- an ELF-64 file in which no fault of the first pass stands
pub record IsElfSound (file : List ℕ) (reach : Reach) : Type 0 where
  pub elf : IsElf64 file
  pub linked : (file_type file ≡ 2) ⊎ (file_type file ≡ 3)
  pub small : IsHeaderSmall file reach
  pub whole : IsWhole file
  pub arranged : IsArranged file reach
