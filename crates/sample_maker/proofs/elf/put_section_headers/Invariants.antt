use Rattle.std.proofs.Common.{◌≡◌, ◌+◌, ◌++◌, drop}
use Rattle.sample_maker.specs.inside.Images.{sizes_of, no_section, section_headers_bytes}
use Rattle.sample_maker.proofs.elf.put_section_headers.Given as goal

abbrev pub invariant-loop-row : goal.invariant-loop-row
invariant-loop-row l = record {
  left : l.out.items ++ section_headers_bytes l.at (drop l.row-index l.rows) ≡ l.fn.out.items ++ (no_section ++ section_headers_bytes 64 l.rows);
  place : l.at + sizes_of (drop l.row-index l.rows) ≡ 64 + sizes_of l.rows;
}
