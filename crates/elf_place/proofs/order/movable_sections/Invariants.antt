use Rattle.std.proofs.Common.{◌≡◌}
use Rattle.elf_place.specs.inside.Spots.{movable_among}
use Rattle.elf_place.proofs.order.movable_sections.Given as goal

abbrev pub invariant-loop-i : goal.invariant-loop-i
invariant-loop-i l = l.all.items ≡ movable_among l.image l.i
