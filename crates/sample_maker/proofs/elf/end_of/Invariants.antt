use Rattle.std.proofs.Common.{◌≡◌, ◌+◌, drop}
use Rattle.sample_maker.specs.inside.Images.{sizes_of}
use Rattle.sample_maker.proofs.elf.end_of.Given as goal

abbrev pub invariant-loop-row : goal.invariant-loop-row
invariant-loop-row l = l.end + sizes_of (drop l.row-index l.rows) ≡ 64 + sizes_of l.rows
