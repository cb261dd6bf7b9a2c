use Rattle.std.proofs.Common.{◌≡◌, ◌≤◌, ◌+◌, ◌*◌, drop, map}
use Rattle.sample_maker.specs.Drawn.{function_of, unit_of}
use Rattle.sample_maker.specs.inside.Files.{place_behind, type_place}
use Rattle.sample_maker.proofs.units.type_place.Given as goal

abbrev pub invariant-loop-function : goal.invariant-loop-function
invariant-loop-function l = record {
  left : place_behind l.place (map function_of (drop l.function-index l.unit.functions.items)) ≡ type_place (unit_of l.unit);
  low : l.place ≤ 46 + 100 * l.function-index;
}
