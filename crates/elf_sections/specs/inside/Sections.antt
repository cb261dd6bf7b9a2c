-- Sections by the fields of their headers.
-- Inner functions and proofs alone need what stands here.
use Rattle.std.specs.Prelude.{ℕ, zero, suc, List, [], ◌∷◌, ◌++◌}
use Rattle.elf_sections.specs.declared.section.Section.{Section}
use Rattle.elf_sections.specs.Sections.{section_of}

-- the first n sections in order
abbrev pub first_sections : List ℕ → ℕ → List Section
first_sections file zero = []
first_sections file (suc n) = first_sections file n ++ section_of file n ∷ []
