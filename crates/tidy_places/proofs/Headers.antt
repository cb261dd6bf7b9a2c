-- Where the section headers of a file stand.
use Rattle.std.proofs.Common.{◌≡◌, ◌≢◌, ◌≤◌, ℕ, List, length, drop, refl}
use Rattle.dw_base.specs.declared.fault.Reach.TheVariants.{Wide}
use Rattle.fixed_width.specs.Numbers.{number}
use Rattle.elf_sections.specs.Numbers.{number_at}
use Rattle.elf_sections.specs.Elf.{section_count, sections_at, header_at}
use Rattle.elf_sections.specs.Faults.{IsRead}

-- e_shoff is the number of 8 bytes at place 40
pub e_shoff : (file : List ℕ) → number 8 (drop 40 file) ≡ sections_at file
unfolding number number_at
e_shoff file = refl

-- they lie in the file
pub headers_inside : (file : List ℕ) → IsRead file Wide → section_count file ≢ 0 → header_at file (section_count file) ≤ length file
headers_inside file read some = read.whole.section_table.inside some
