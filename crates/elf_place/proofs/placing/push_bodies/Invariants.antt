use Rattle.std.proofs.Common.{◌≡◌, ℕ, length, drop}
use Rattle.elf_place.specs.Bodies.{body_after}
use Rattle.elf_place.specs.inside.Spots.{IsChain, laid}
use Rattle.elf_place.proofs.placing.push_bodies.Given as goal

abbrev pub invariant-loop-spot : goal.invariant-loop-spot
invariant-loop-spot l = record {
  chain : (end : ℕ) × IsChain l.image (body_after l.image l.bodies) (length l.out.items) (drop l.spot-index l.spots) end;
  made : laid (body_after l.image l.bodies) l.out.items (drop l.spot-index l.spots) ≡ laid (body_after l.image l.bodies) l.fn.out.items l.spots;
}
