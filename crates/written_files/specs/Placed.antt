-- Where the parts of a file stand that is written anew for another.
use Rattle.std.specs.Prelude.{◌≡◌, ◌≢◌, ℕ, List, if◌then◌else◌}
use Rattle.elf_sections.specs.Elf.{section_count, body_of}
use Rattle.elf_sections.specs.Names.{name_of, is_written}
use Rattle.elf_place.specs.Layout.{IsLaidOut}

-- the body that a section is to have in the written file: its own, but for one that is written anew
abbrev pub body_in : List ℕ → List ℕ → ℕ → List ℕ
body_in file written i = if is_written (name_of file i) then body_of written i else body_of file i

-- Its parts stand where they are to stand. A file without sections stays as it is.
pub record IsPlaced (file written : List ℕ) : Type 0 where
  pub bare : section_count file ≡ 0 → written ≡ file
  pub laid_out : section_count file ≢ 0 → IsLaidOut file (body_in file written) written
