use Rattle.std.specs.Prelude.{length}
use Rattle.std.specs.List.{All}
use Rattle.value_links.specs.Reading.{Linkable}
use Rattle.value_links.specs.Parts.{lists_in, section_held}
use Rattle.value_links.specs.inside.Checks.{InEach}
use Rattle.value_links.specs.inside.Namings.{AreJoined, IsEntryNaming, IsSomeNaming}
use Rattle.value_links.proofs.namings.push_unit.Given as goal

abbrev pub invariant-loop-id : goal.invariant-loop-id
invariant-loop-id l =
    InEach l.parts (λ (r : Linkable). AreJoined l.fn.namings.items l.namings.items (IsEntryNaming r l.kind l.unit l.id))
    × (All (IsSomeNaming (section_held (lists_in l.parts l.kind)) (length l.parts.units.units.items)) l.fn.namings.items → All (IsSomeNaming (section_held (lists_in l.parts l.kind)) (length l.parts.units.units.items)) l.namings.items)
