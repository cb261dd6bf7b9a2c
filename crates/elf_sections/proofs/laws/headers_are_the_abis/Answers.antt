use Rattle.elf_sections.proofs.HeaderLaws.{file_headers, segment_headers, section_headers}
use Rattle.elf_sections.proofs.laws.headers_are_the_abis.Goals as goal

pub returns : goal.returns
returns c = record { file = file_headers; segment = segment_headers; section = section_headers }
