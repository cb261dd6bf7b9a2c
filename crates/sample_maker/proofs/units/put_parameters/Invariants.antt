use Rattle.std.proofs.Common.{◌≡◌, ◌++◌, drop, map, length}
use Rattle.std.specs.List.{concat}
use Rattle.sample_maker.specs.inside.Bytes.{located_bytes}
use Rattle.sample_maker.specs.inside.Files.{parameter_entries_bytes}
use Rattle.sample_maker.proofs.units.put_parameters.Given as goal

abbrev pub invariant-loop-parameter : goal.invariant-loop-parameter
invariant-loop-parameter l = record {
  info : l.info.items ++ parameter_entries_bytes l.declared.line l.declared.base_type l.offset l.function.size (length l.locations.items) (drop l.parameter-index l.function.parameters.items) ≡ l.fn.info.items ++ parameter_entries_bytes l.declared.line l.declared.base_type l.offset l.function.size (length l.fn.locations.items) l.function.parameters.items;
  locations : l.locations.items ++ concat (map (located_bytes l.offset l.function.size) (drop l.parameter-index l.function.parameters.items)) ≡ l.fn.locations.items ++ concat (map (located_bytes l.offset l.function.size) l.function.parameters.items);
}
