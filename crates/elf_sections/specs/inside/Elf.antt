-- An ELF-64 file, as the System V ABI has it: its header, its two tables, and the bytes that these name.
-- Each field is a number at a place. Of the two tables a segment's header has 56 bytes, a section's 64.
-- Inner functions and proofs alone need what stands here.
use Rattle.std.specs.Prelude.{ℕ, List, ◌++◌, take, slice_range}
use Rattle.elf_sections.specs.Elf.{fixed_end_of}

-- The fields of a section's header.

-- the loaded bytes: those below the fixed end but e_shoff, the bytes 40 to 47
abbrev pub loaded_bytes : List ℕ → List ℕ
loaded_bytes file = take 40 file ++ slice_range file 48 (fixed_end_of file)
