use Rattle.rewriter.proofs.UnitRoom.{numbers_are_few}
use Rattle.rewriter.proofs.WorldFacts.{countable_as}
use Rattle.rewriter.proofs.tables.write_tables.Goals as goal

pub count_uses-requires : goal.count_uses-requires
count_uses-requires c =
    countable_as c.args.world.now c.requires.world.0 c.requires.world.1 c.units.result.now.items c.tables-tables.result.now.items c.table_numbers.result.now.items c.units.ensures c.tables-tables.ensures c.table_numbers.ensures c.trees_are_walks.ensures

pub units_by_table-requires-clause-few : goal.units_by_table-requires-clause-few
units_by_table-requires-clause-few c =
    numbers_are_few c.args.world.now c.requires.world.0 c.table_numbers-2.result.now.items c.requires.world.1 c.table_numbers-2.ensures
