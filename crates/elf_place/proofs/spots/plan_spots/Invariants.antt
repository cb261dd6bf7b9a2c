use Rattle.std.proofs.Common.{◌≡◌, ◌≤◌, ◌+◌, ◌*◌, ◌^◌, ℕ, map, take}
use Rattle.elf_sections.specs.Elf.{fixed_end_of}
use Rattle.elf_place.specs.Bodies.{body_after}
use Rattle.elf_place.specs.inside.Spots.{IsChain}
use Rattle.elf_place.specs.declared.spots.Spot.{Spot}
use Rattle.elf_place.proofs.spots.plan_spots.Given as goal

abbrev pub invariant-loop-section : goal.invariant-loop-section
invariant-loop-section l = record {
  low : l.end ≤ 2 ^ 35 + l.section-index * 2 ^ 36;
  chain : IsChain l.image (body_after l.image l.bodies) (fixed_end_of l.image) l.spots.items l.end;
  sections : map (λ (spot : Spot). spot.section) l.spots.items ≡ map (λ (place : ℕ × ℕ). place.1) (take l.section-index l.order);
}
