use Rattle.tidy_tables.proofs.Countable.{countable_as}
use Rattle.tidy_tables.proofs.uses.count_uses.Goals as goal

pub count_among-requires : goal.count_among-requires
count_among-requires c =
    countable_as c.args.world.now c.requires.world.0 c.requires.world.1 c.units.result.now.items c.tables.result.now.items c.table_numbers.result.now.items c.units.ensures c.tables.ensures c.table_numbers.ensures
