use Rattle.std.proofs.Common.{◌≡◌, ◌≤◌, ◌+◌, ◌*◌, ◌++◌, drop, map, length}
use Rattle.sample_maker.specs.Numbered.{join_from}
use Rattle.sample_maker.specs.Drawn.{function_of, unit_of}
use Rattle.sample_maker.specs.inside.Files.{function_locations, function_ranges, functions_bytes, unit_locations, unit_ranges}
use Rattle.sample_maker.proofs.units.put_functions.Given as goal

abbrev pub invariant-loop-i : goal.invariant-loop-i
invariant-loop-i l = record {
  info : l.sections.info.items ++ functions_bytes l.number l.base_type l.i l.sibling (length l.sections.locations.items) (length l.sections.ranges.items) (map function_of (drop l.i l.unit.functions.items)) ≡ l.fn.sections.info.items ++ functions_bytes l.number l.base_type 0 46 (length l.fn.sections.locations.items) (length l.fn.sections.ranges.items) (unit_of l.unit);
  locations : l.sections.locations.items ++ join_from function_locations l.i (map function_of (drop l.i l.unit.functions.items)) ≡ l.fn.sections.locations.items ++ unit_locations (unit_of l.unit);
  ranges : l.sections.ranges.items ++ join_from (function_ranges l.number) l.i (map function_of (drop l.i l.unit.functions.items)) ≡ l.fn.sections.ranges.items ++ unit_ranges l.number (unit_of l.unit);
  lines : l.sections.lines.items ≡ l.fn.sections.lines.items;
  aranges : l.sections.aranges.items ≡ l.fn.sections.aranges.items;
  low : l.sibling ≤ 46 + 100 * l.i;
}
