use Rattle.std.specs.Prelude.{length}
use Rattle.std.specs.List.{All}
use Rattle.value_links.specs.Reading.{Linkable}
use Rattle.value_links.specs.Parts.{lists_in, section_held}
use Rattle.value_links.specs.inside.Checks.{InEach}
use Rattle.value_links.specs.inside.Namings.{AreJoined, IsUnitNaming, IsSomeNaming}
use Rattle.value_links.proofs.namings.push_units.Given as goal

abbrev pub invariant-loop-unit : goal.invariant-loop-unit
invariant-loop-unit l =
    InEach l.parts (λ (r : Linkable). AreJoined l.fn.namings.items l.namings.items (IsUnitNaming r l.kind l.unit))
    × (All (IsSomeNaming (section_held (lists_in l.parts l.kind)) (length l.parts.units.units.items)) l.fn.namings.items → All (IsSomeNaming (section_held (lists_in l.parts l.kind)) (length l.parts.units.units.items)) l.namings.items)
