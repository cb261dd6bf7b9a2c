use Rattle.std.proofs.Common.{◌≡◌, ◌++◌}
use Rattle.elf_place.specs.inside.Spots.{headers_of}
use Rattle.elf_place.proofs.headers.push_headers.Given as goal

abbrev pub invariant-loop-i : goal.invariant-loop-i
invariant-loop-i l = l.out.items ≡ l.fn.out.items ++ headers_of l.image l.i
