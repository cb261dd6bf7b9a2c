use Rattle.abbrev_tables.proofs.Shortest.{table_spelled}
use Rattle.abbrev_tables.proofs.laws.tables_written.Goals as goal

pub returns : goal.returns
returns c = table_spelled
