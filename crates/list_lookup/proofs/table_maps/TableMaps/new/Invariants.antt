use Rattle.list_lookup.specs.Maps.{AreTableMaps}
use Rattle.list_lookup.proofs.table_maps.TableMaps.new.Given as goal

abbrev pub invariant-loop-pair : goal.invariant-loop-pair
invariant-loop-pair l = AreTableMaps l.addr l.pair-items l.pair-index l.tables.items
