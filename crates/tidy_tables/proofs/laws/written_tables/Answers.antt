use Rattle.written_files.proofs.Laws.{written_laws}
use Rattle.tidy_tables.proofs.WrittenColumns.{columns_stay_least}
use Rattle.tidy_tables.proofs.WrittenDeclarations.{same_declarations}
use Rattle.tidy_tables.proofs.WrittenRows.{written_tables_tidy}
use Rattle.tidy_tables.proofs.laws.written_tables.Goals as goal

pub returns : goal.returns
returns c = written_tables_tidy written_laws (columns_stay_least (same_declarations written_laws))
