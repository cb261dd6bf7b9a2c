use Rattle.std.proofs.lemmas.List.{take_rest}
use Rattle.abbrev_tables.proofs.Rows.{table_at}
use Rattle.abbrev_tables.proofs.table.Table.read.Goals as goal

pub returns-in-Ok-clause-table : goal.returns-in-Ok-clause-table
returns-in-Ok-clause-table c = table_at c.args.section.now c.args.at c.in-Ok.table c.requires (rw take_rest at c.in-Ok.ensures.table)
