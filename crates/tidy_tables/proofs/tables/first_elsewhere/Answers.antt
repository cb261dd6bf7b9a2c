use Rattle.tidy_tables.proofs.UntidyTables.{elsewhere_least}
use Rattle.tidy_tables.proofs.tables.first_elsewhere.Goals as goal

pub returns : goal.returns
returns c = λ r s read holds again holds_again.
    elsewhere_least c.args.before.now c.args.after.now r s holds.tables holds_again.tables c.requires.units c.args.written.now.items c.requires.written c.tables-tables.result.now.items c.table_numbers.result.now.items c.table_numbers-2.result.now.items c.tables-tables.ensures c.table_numbers.ensures c.table_numbers-2.ensures c.first_early-early.result c.first_inside-inside.result c.first_further-further.result c.lesser.result c.lesser-2.result c.first_early-early.ensures c.first_inside-inside.ensures c.first_further-further.ensures c.lesser.ensures c.lesser-2.ensures
