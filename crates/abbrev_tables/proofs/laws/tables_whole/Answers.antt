use Rattle.abbrev_tables.proofs.Whole.{table_whole}
use Rattle.abbrev_tables.proofs.laws.tables_whole.Goals as goal

pub returns : goal.returns
returns c = table_whole
