-- The parts of a written file as they are held.
-- Inner functions and proofs alone need what stands here.
use Rattle.std.specs.Prelude.{◌≡◌, ◌≤◌, ◌<◌, ℕ, List, length, map, slice_index_or, ⊤}
use Rattle.std.specs.List.{All}
use Rattle.list_model.specs.declared.item.Meaning.TheVariants.{Dead}
use Rattle.list_arena.specs.Held.{HeldList}
use Rattle.value_links.specs.World.{World, lists_held}
use Rattle.check_records.specs.declared.parts.Part.{Part as HeldPart}
use Rattle.check_records.specs.declared.parts.Part.TheVariants as held
use Rattle.check_records.specs.Parts.{Part, AProgram, AList, AUnit}

abbrev pub part_of : HeldPart → Part
part_of (held.Program i) = AProgram i
part_of (held.List kind k) = AList kind k
part_of (held.Unit u) = AUnit u

abbrev pub parts_of : List HeldPart → List Part
parts_of parts = map part_of parts

-- what a part names is there, and a list isn't frozen
abbrev pub IsThere : World → HeldPart → Type 0
IsThere world (held.Program i) = i < length world.programs
IsThere world (held.List kind k) = (k < length (lists_held world kind)) × ((d : HeldList) → ¬ ((slice_index_or (lists_held world kind) k d).meaning ≡ Dead))
IsThere world (held.Unit u) = u < length world.units

abbrev pub AreThere : World → List HeldPart → Type 0
AreThere world parts = All (IsThere world) parts

-- where a part is a list, its number among all parts isn't below that of programs
abbrev pub IsBehindPrograms : HeldPart → ℕ → ℕ → Type 0
IsBehindPrograms (held.List kind k) programs number = programs ≤ number
IsBehindPrograms part programs number = ⊤
