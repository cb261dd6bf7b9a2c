-- What a tidy file holds: where no row holds, tables tile, entries have the declarations that correspond, and contributions are filled.
use Rattle.tidy_lists.proofs.RunLists.{go_along}
use Rattle.tidy_files.specs.Laws.{TidyFilesAreWhole}
use Rattle.tidy_files.proofs.WholeEntries.{renewed_entries}
use Rattle.tidy_files.proofs.WholeLists.{filled_by_lists}
use Rattle.tidy_files.proofs.WholeTables.{tiled_tables}

pub tidy_files_are_whole : TidyFilesAreWhole
tidy_files_are_whole classes file written r s read again same tidy = record {
  tables = tiled_tables file written r s read again same classes tidy;
  entries = renewed_entries file written r s read again same classes tidy;
  filled = filled_by_lists file written r s read again same (go_along file written r s read again same) classes tidy;
}
