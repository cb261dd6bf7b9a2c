use Rattle.std.proofs.lemmas.List.Filters.{dedup_is}
use Rattle.list_lookup.proofs.AddressTables.{same_pair, tables_sorted}
use Rattle.list_lookup.proofs.table_maps.tables_of.Goals as goal

pub returns : goal.returns
returns c = tables_sorted c.args.world.now c.requires.world.0 c.requires.world.1 c.in_ok-tables.tables.items c.sort_unstable.new.self.items c.dedup.new.self.items c.in_ok-tables.ensures c.sort_unstable.ensures.permutation c.sort_unstable.ensures.sorted (dedup_is same_pair _ _ c.dedup.ensures.filtered)
