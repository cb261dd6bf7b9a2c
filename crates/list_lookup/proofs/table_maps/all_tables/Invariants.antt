use Rattle.list_lookup.specs.Maps.{AreTablesIn}
use Rattle.list_lookup.proofs.table_maps.all_tables.Given as goal

abbrev pub invariant-loop-unit : goal.invariant-loop-unit
invariant-loop-unit l = AreTablesIn l.world l.unit l.tables.items
