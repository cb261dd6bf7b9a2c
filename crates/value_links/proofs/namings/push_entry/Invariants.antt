use Rattle.std.specs.Prelude.{length}
use Rattle.std.specs.List.{All}
use Rattle.value_links.specs.Reading.{Linkable}
use Rattle.value_links.specs.Parts.{lists_in, section_held}
use Rattle.value_links.specs.inside.Checks.{InEach}
use Rattle.value_links.specs.inside.Namings.{AreJoined, IsColumnNaming, IsSomeNaming}
use Rattle.value_links.proofs.namings.push_entry.Given as goal

abbrev pub invariant-loop-column : goal.invariant-loop-column
invariant-loop-column l =
    InEach l.parts (λ (r : Linkable). AreJoined l.fn.namings.items l.namings.items (IsColumnNaming r l.kind l.unit l.id l.column))
    × (All (IsSomeNaming (section_held (lists_in l.parts l.kind)) (length l.parts.units.units.items)) l.fn.namings.items → All (IsSomeNaming (section_held (lists_in l.parts l.kind)) (length l.parts.units.units.items)) l.namings.items)
